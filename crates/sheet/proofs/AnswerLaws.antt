-- What `read` answers, and what it leaves in lent memory, is what the definition says: one law for
-- each of its three ways out.
use Prim.Native.Nat.{ℕ, ◌+◌, ◌*◌, ◌≤◌, ◌<◌}
use mathlib.Core.Path.{◌≡◌, refl, sym, ap, ◌∙◌}
use mathlib.Core.List.{List, ◌++◌}
use Rattle.std.proofs.Common.{Result, Ok, Err, MatchResult, IsErrAnd}
use native.Mathlib.Omega.{arith}
use borrow.Author.Tests.{lt-ltb, le-ltb}
use lib.ListN.{length, get_or, take, drop}
use Rattle.words.specs.Loop.{loop}
use Rattle.words.proofs.Branch.{pick_yes, pick_no}
use Rattle.sheet.specs.Fill.{placed, rate_at, species_at}
use Rattle.sheet.specs.Reader.{whole, broken, accepted, malformed, too_long, told_of, read_of}
use Rattle.sheet.specs.Reader.{sheet_of, judged_at, model_from, heading_from, heading_of}
use Rattle.sheet.specs.Reader.{answer_of, amounts_left, rates_left, species_left}
use Rattle.sheet.specs.declared.sheet.Heading.{Heading}
use Rattle.sheet.specs.declared.sheet.SheetError.{SheetError}
use Rattle.sheet.specs.declared.sheet.SheetError.TheVariants as error
use Rattle.sheet.proofs.Parts.{Lengths, parts-of, lengths-of}
use Rattle.sheet.proofs.FillLaws.{copied-over, amounts-over, rates-over, species-over, length-reactions}

pub read-long : (s : List ℕ) → 4096 < length s → read_of s ≡ too_long
unfolding read_of
read-long s h = pick_yes _ _ (lt-ltb _ _ h)

pub read-broken : (s : List ℕ) (L : ℕ) → length s ≤ 4096 → broken L ≡ sheet_of s → read_of s ≡ malformed (L + 1)
unfolding read_of told_of
read-broken s L h e = pick_no _ _ (le-ltb _ _ h) ∙ ap told_of (sym e)

pub read_whole : (s h a n r : List ℕ) → length s ≤ 4096 → whole h a n r ≡ sheet_of s
    → read_of s ≡ accepted (model_from h a n r)
unfolding read_of told_of
read_whole s h a n r l e = pick_no _ _ (le-ltb _ _ l) ∙ ap told_of (sym e)

-- the answer and the three parts of lent memory
abbrev pub ReadOutcome : List ℕ → Result Heading SheetError
    → List ℕ → List ℕ → List ℕ → List ℕ → List ℕ → List ℕ → Type 0
ReadOutcome s x amounts amounts' rates rates' species species' =
    (x ≡ answer_of (read_of s))
    × ((amounts' ≡ amounts_left (read_of s) amounts)
    × ((rates' ≡ rates_left (read_of s) rates) × (species' ≡ species_left (read_of s) species)))

pub outcome-long : (s a b c : List ℕ) → 4096 < length s → ReadOutcome s (Err error.TooLong) a a b b c c
unfolding answer_of amounts_left rates_left species_left
outcome-long s a b c h = rw (read-long s h) (refl, (refl, (refl, refl)))

pub outcome-broken : (s a b c h g n r : List ℕ) (L : ℕ) {x : Result Unit ℕ} → length s ≤ 4096 → x ≡ Err L
    → judged_at h g n r x ≡ sheet_of s
    → ReadOutcome s (Err (error.Malformed (L + 1))) a a b b c c
unfolding judged_at answer_of amounts_left rates_left species_left
outcome-broken s a b c h g n r L l f e =
    rw (read-broken s L l (ap (judged_at h g n r) (sym f) ∙ e)) (refl, (refl, (refl, refl)))

heading-same : (h a n r : List ℕ) → Lengths h a n r → heading_from h (get_or n 0 0) ≡ heading_of (model_from h a n r)
unfolding heading_from heading_of model_from
heading-same h a n r l = rw (l.amounts, length-reactions (get_or n 0 0) r)

module _ (s h g n R : List ℕ) {x : Result Unit ℕ} (good : x ≡ Ok tt)
    (is : judged_at h (take (get_or h 7 0) g) n (take (get_or n 0 0 * 5) R) x ≡ sheet_of s) where
  read-all : whole h (take (get_or h 7 0) g) n (take (get_or n 0 0 * 5) R) ≡ sheet_of s
  unfolding judged_at
  read-all = ap (judged_at h (take (get_or h 7 0) g) n (take (get_or n 0 0 * 5) R)) (sym good) ∙ is

  pub lengths : Lengths h (take (get_or h 7 0) g) n (take (get_or n 0 0 * 5) R)
  lengths = lengths-of (parts-of h (take (get_or h 7 0) g) n (take (get_or n 0 0 * 5) R) s (sym read-all))

  pub outcome-whole : (short : length s ≤ 4096) → length g ≡ 32 → (a b c : List ℕ)
      → {x : Heading} {a' b' c' : List ℕ} → x ≡ heading_from h (get_or n 0 0)
      → a' ≡ loop (placed (λ i. get_or g i 0)) 0 (get_or h 7 0) a
      → b' ≡ loop (placed (rate_at R)) 0 (get_or n 0 0) b → c' ≡ loop (placed (species_at R)) 0 (get_or n 0 0 * 4) c
      → ReadOutcome s (Ok x) a a' b b' c c'
  unfolding answer_of amounts_left rates_left species_left model_from
  outcome-whole short lg a b c ex ea eb ec =
      rw (read_whole s h (take (get_or h 7 0) g) n (take (get_or n 0 0 * 5) R) short read-all) (
        ap Ok (ex ∙ heading-same h (take (get_or h 7 0) g) n (take (get_or n 0 0 * 5) R) lengths),
        (
          ea ∙ amounts-over g a (get_or h 7 0) (omega (arith, lengths.few)),
          (eb ∙ rates-over R b (get_or n 0 0), ec ∙ species-over R c (get_or n 0 0)),
        ),
      )

  -- the same where the amounts are copied, for which there has to be room
  pub outcome-copied : (short : length s ≤ 4096) → length g ≡ 32 → (a b c : List ℕ) → length a ≡ 32
      → {x : Heading} {a' b' c' : List ℕ} → x ≡ heading_from h (get_or n 0 0)
      → a' ≡ take (get_or h 7 0) g ++ drop (get_or h 7 0) a
      → b' ≡ loop (placed (rate_at R)) 0 (get_or n 0 0) b → c' ≡ loop (placed (species_at R)) 0 (get_or n 0 0 * 4) c
      → ReadOutcome s (Ok x) a a' b b' c c'
  outcome-copied short lg a b c la ex ea eb ec =
      outcome-whole short lg a b c ex
      (ea ∙ copied-over (get_or h 7 0) g a (omega (arith, lengths.few)) (omega (arith, lengths.few))
      ∙ sym (amounts-over g a (get_or h 7 0) (omega (arith, lengths.few)))) eb ec

same-value : {A B : Type 0} {u v : A} → ◌≡◌ {A = Result A B} (Ok u) (Ok v) → u ≡ v
same-value h = cc

-- what went into a `map_err`, by what came out
module _ {T E D : Type 0} {r : Result T D} (Q : E → D → Type 0) where
  pub mapped-err : (x : Result T E) {y : D} → MatchResult x (λ v. r ≡ Ok v) (λ e. IsErrAnd r (Q e)) → r ≡ Err y
      → (e : E) × ((x ≡ Err e) × Q e y)
  mapped-err (Ok v) {y} h e = absurd (let z : ◌≡◌ {A = ℕ} 0 1 = cc in let y : ⊥ = omega arith in y)
  mapped-err (Err d) {y} h e = (d, (refl, rw e at h))

  pub mapped-ok : (x : Result T E) {v : T} → MatchResult x (λ v. r ≡ Ok v) (λ e. IsErrAnd r (Q e)) → r ≡ Ok v → x ≡ Ok v
  mapped-ok (Ok u) {v} h e = ap Ok (same-value (sym h ∙ e))
  mapped-ok (Err d) {v} h e = absurd (rw e at h)
