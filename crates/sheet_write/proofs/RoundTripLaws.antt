-- The writer held against the reader. The reader's theorem `accepted-exactly` gives both round trips.
use Prim.Native.Nat.{ℕ, ◌≤◌, ◌<◌}
use mathlib.Core.Path.{◌≡◌, refl, sym, ap, ◌∙◌}
use mathlib.Core.Bool.{Bool, true, false}
use mathlib.Core.Logic.{◌↔◌}
use mathlib.Core.List.{List, ◌++◌}
use native.Mathlib.Omega.{arith}
use borrow.Author.Tests.{lt-ltb, le-ltb, ltb-true, ltb-false}
use lib.Dec.{ltb}
use lib.ListN.{length, take, drop}
use lib.Seq.{take-append_seam}
use Rattle.words.proofs.Branch.{pick_yes, pick_no, pick_all}
use Rattle.sheet.specs.declared.sheet.Heading.{Heading}
use Rattle.sheet.specs.Sheet.{Model, written}
use Rattle.sheet.specs.Reader.{heading_of, over, rates_of, species_of, accepted, read_of}
use Rattle.sheet.specs.Reader.{amounts_left, rates_left, species_left}
use Rattle.sheet.proofs.FillLaws.{over-room}
use Rattle.sheet.proofs.Theorems.{accepted-exactly}
use Rattle.sheet_write.specs.Memory.{Holds, Arrays, model_in}
use Rattle.sheet_write.specs.Writer.{held_in, sheet_in, answer_for, left_for, answer_of, bytes_left}
use Rattle.sheet_write.specs.RoundTrips.{Readable, Longer}
use Rattle.std.proofs.Common.{Ok, Err}
use Rattle.sheet_write.specs.Writer.{Writing}
use Rattle.sheet_write.specs.declared.writing.WritingError.TheVariants.{NoModel, TooShort}
use Rattle.sheet_write.proofs.HeldLaws.{length_over, over-twice, held-valid, held-holds, holds-model, holds-held}

not_none : {n : ℕ} → ◌≡◌ {A = Writing} (Ok n) (Err NoModel) → ⊥
not_none e = let z : ◌≡◌ {A = ℕ} 0 1 = cc in omega arith

short-not-none : ◌≡◌ {A = Writing} (Err TooShort) (Err NoModel) → ⊥
short-not-none e = let z : ◌≡◌ {A = ℕ} 0 1 = cc in omega arith

not_short : {n : ℕ} → ◌≡◌ {A = Writing} (Ok n) (Err TooShort) → ⊥
not_short e = let z : ◌≡◌ {A = ℕ} 0 1 = cc in omega arith

module _ (h : Heading) (a r s out : List ℕ) where
  for-none : (sheet : List ℕ) → answer_for sheet out ≡ Err NoModel → ⊥
  unfolding answer_for
  for-none sheet =
      pick_all (λ x. x ≡ Err NoModel → ⊥) (ltb (length out) (length sheet)) (Err TooShort) (Ok (length sheet))
      (λ t e. short-not-none e) (λ t e. not_none e)

  for-short : (sheet : List ℕ) → answer_for sheet out ≡ Err TooShort → length out < length sheet
  unfolding answer_for
  for-short sheet =
      pick_all (λ x. x ≡ Err TooShort → length out < length sheet) (ltb (length out) (length sheet)) (Err TooShort)
      (Ok (length sheet)) (λ t e. ltb-true _ _ t) (λ t e. absurd (not_short e))

  for-written : (sheet : List ℕ) (n : ℕ) → answer_for sheet out ≡ Ok n
      → (n ≡ length sheet) × (length sheet ≤ length out)
  unfolding answer_for
  for-written sheet n =
      pick_all (λ x. x ≡ Ok n → (n ≡ length sheet) × (length sheet ≤ length out))
      (ltb (length out) (length sheet)) (Err TooShort) (Ok (length sheet)) (λ t e. absurd (not_short (sym e)))
      (λ t e. (cc, ltb-false _ _ t))

  answer-held : held_in h a r s ≡ true → answer_of h a r s out ≡ answer_for (sheet_in h a r s) out
  unfolding answer_of
  answer-held e = pick_yes _ _ e

  answer-none : held_in h a r s ≡ false → answer_of h a r s out ≡ Err NoModel
  unfolding answer_of
  answer-none e = pick_no _ _ e

  left-held : held_in h a r s ≡ true → bytes_left h a r s out ≡ left_for (sheet_in h a r s) out
  unfolding bytes_left
  left-held e = pick_yes _ _ e

  module _ (long : Arrays a r s) where
    abbrev pub held-readable : held_in h a r s ≡ true → Readable h a r s
    held-readable e =
        record {
          bytes = sheet_in h a r s;
          model = model_in h a r s;
          read = (accepted-exactly (sheet_in h a r s) (model_in h a r s)).1 (refl, held-valid h a r s long e);
          holds = held-holds h a r s long e;
        }

    readable-held : Readable h a r s → held_in h a r s ≡ true
    readable-held q =
        holds-held q.model h a r s long q.holds ((accepted-exactly q.bytes q.model).0 q.read).1

    readable-sheet : (q : Readable h a r s) → sheet_in h a r s ≡ q.bytes
    readable-sheet q =
        let v = (accepted-exactly q.bytes q.model).0 q.read in
        ap written (holds-model q.model h a r s long q.holds v.1) ∙ sym v.0

    pub refused-exactly-proof : (answer_of h a r s out ≡ Err NoModel) ↔ (Readable h a r s → ⊥)
    refused-exactly-proof = (
      λ e q. for-none (sheet_in h a r s) (sym (answer-held (readable-held q)) ∙ e),
      λ none. go none (held_in h a r s) refl,
    )
      where
        go : (Readable h a r s → ⊥) → (b : Bool) → held_in h a r s ≡ b → answer_of h a r s out ≡ Err NoModel
        go none true e = absurd (none (held-readable e))
        go none false e = answer-none e

    short-sheet : (q : Readable h a r s) → length out < length q.bytes
        → answer_for (sheet_in h a r s) out ≡ Err TooShort
    unfolding answer_for
    short-sheet q l = rw (readable-sheet q) (pick_yes _ _ (lt-ltb _ _ l))

    pub short-exactly-proof : (answer_of h a r s out ≡ Err TooShort) ↔ Longer h a r s out
    short-exactly-proof = (
      λ e. go e (held_in h a r s) refl,
      λ q. answer-held (readable-held q.held) ∙ short-sheet q.held q.longer,
    )
      where
        go : answer_of h a r s out ≡ Err TooShort → (b : Bool) → held_in h a r s ≡ b → Longer h a r s out
        go e true t = record {
          held = held-readable t;
          longer = for-short (sheet_in h a r s) (sym (answer-held t) ∙ e);
        }
        go e false t = absurd (short-not-none (sym e ∙ answer-none t))

    fitting-answer : (q : Readable h a r s) → length q.bytes ≤ length out
        → answer_for (sheet_in h a r s) out ≡ Ok (length q.bytes)
    unfolding answer_for
    fitting-answer q l = rw (readable-sheet q) (pick_no _ _ (le-ltb _ _ l))

    fitting-left : (q : Readable h a r s) → length q.bytes ≤ length out
        → left_for (sheet_in h a r s) out ≡ over q.bytes out
    unfolding left_for
    fitting-left q l = rw (readable-sheet q) (pick_no _ _ (le-ltb _ _ l))

    -- what is read into memory comes back
    pub written_over : (q : Readable h a r s) → length q.bytes ≤ length out
        → (answer_of h a r s out ≡ Ok (length q.bytes)) × (bytes_left h a r s out ≡ over q.bytes out)
    written_over q l = (
      answer-held (readable-held q) ∙ fitting-answer q l,
      left-held (readable-held q) ∙ fitting-left q l,
    )

    pub written-back-proof : (q : Readable h a r s) → length q.bytes ≤ length out
        → (answer_of h a r s out ≡ Ok (length q.bytes))
        × (bytes_left h a r s out ≡ q.bytes ++ drop (length q.bytes) out)
    written-back-proof q l = let w = written_over q l in (w.0, w.1 ∙ over-room q.bytes out l)

    -- what was written is read as the model that memory holds
    pub read-back-proof : (n : ℕ) → answer_of h a r s out ≡ Ok n
        → (read_of (take n (bytes_left h a r s out)) ≡ accepted (model_in h a r s))
        × Holds (model_in h a r s) h a r s
    read-back-proof n e = go (held_in h a r s) refl
      where
        go : (b : Bool) → held_in h a r s ≡ b
            → (read_of (take n (bytes_left h a r s out)) ≡ accepted (model_in h a r s))
            × Holds (model_in h a r s) h a r s
        go false t = absurd (not_none (sym e ∙ answer-none t))
        go true t =
            let q = held-readable t in
            let w = for-written (sheet_in h a r s) n (sym (answer-held t) ∙ e) in
            let b = written-back-proof q w.1 in (
              rw (w.0, b.1, take-append_seam q.bytes (drop (length q.bytes) out)) q.read,
              q.holds,
            )

  -- a refusal writes nothing
  nothing-by : ((n : ℕ) → answer_of h a r s out ≡ Ok n → ⊥) → (b : Bool) → held_in h a r s ≡ b
      → bytes_left h a r s out ≡ out
  unfolding bytes_left answer_for left_for
  nothing-by none false t = pick_no _ _ t
  nothing-by none true t =
      pick_yes _ _ t
      ∙ pick_all (λ x. x ≡ out) (ltb (length out) (length (sheet_in h a r s))) out (over (sheet_in h a r s) out)
      (λ l. refl)
      (λ l. absurd (none (length (sheet_in h a r s)) (answer-held t ∙ pick_no _ _ l)))

  pub nothing-written-proof : ((n : ℕ) → answer_of h a r s out ≡ Ok n → ⊥) → bytes_left h a r s out ≡ out
  nothing-written-proof none = nothing-by none (held_in h a r s) refl

-- ---- memory as reading leaves it

module _ (m : Model) (a r s : List ℕ) where
  pub left-holds : Holds m (heading_of m) (amounts_left (accepted m) a) (rates_left (accepted m) r)
      (species_left (accepted m) s)
  unfolding amounts_left rates_left species_left
  left-holds =
      record {
        heading = refl;
        amounts = sym (over-twice m.amounts a);
        rates = sym (over-twice (rates_of m.reactions) r);
        species = sym (over-twice (species_of m.reactions) s);
      }

  pub left-arrays : Arrays a r s
      → Arrays (amounts_left (accepted m) a) (rates_left (accepted m) r) (species_left (accepted m) s)
  unfolding amounts_left rates_left species_left
  left-arrays long =
      record {
        amounts = length_over m.amounts a ∙ long.amounts;
        rates = length_over (rates_of m.reactions) r ∙ long.rates;
        species = length_over (species_of m.reactions) s ∙ long.species;
      }

pub sheet-back-proof : (bytes : List ℕ) (m : Model) → read_of bytes ≡ accepted m → (a r s out : List ℕ) → Arrays a r s
    → length bytes ≤ length out
    → (answer_of (heading_of m) (amounts_left (read_of bytes) a) (rates_left (read_of bytes) r)
    (species_left (read_of bytes) s)
    out ≡ Ok (length bytes))
    × (bytes_left (heading_of m) (amounts_left (read_of bytes) a) (rates_left (read_of bytes) r)
    (species_left (read_of bytes) s) out ≡ bytes ++ drop (length bytes) out)
sheet-back-proof bytes m e a r s out long l =
    rw e
    (written-back-proof (heading_of m) (amounts_left (accepted m) a) (rates_left (accepted m) r)
    (species_left (accepted m) s) out (left-arrays m a r s long)
    (record { bytes = bytes; model = m; read = e; holds = left-holds m a r s }) l)
