-- What the exported functions answer and leave, one law for each of their ways out.
use Prim.Native.Nat.{ℕ, ◌≤◌, ◌<◌}
use mathlib.Core.Path.{◌≡◌, refl, sym, ap}
use mathlib.Core.List.{List, [], ◌∷◌}
use native.Mathlib.Omega.{arith}
use borrow.Author.Tests.{lt-ltb, le-ltb}
use lib.ListN.{get_or, length}
use Rattle.words.proofs.Branch.{pick_yes, pick_no}
use Rattle.sheet.specs.declared.sheet.Heading.{Heading}
use Rattle.sheet.specs.declared.sheet.SheetError.TheVariants as error
use Rattle.std.proofs.Common.{Ok, Err}
use Rattle.sheet.specs.Reader.{Read, accepted, malformed, too_long, heading_of, over, answer_of}
use Rattle.sheet.specs.Reader.{amounts_left, rates_left, species_left}
use Rattle.sheet_write.specs.declared.writing.WritingError.TheVariants.{NoModel}
use Rattle.sheet_write.specs.Writer.{Writing, number_of, bytes_left, answer_of as write_answer_of}
use Rattle.export_sheet.specs.Border.{setting_words, count_words, sheet_read, read_left}
use Rattle.export_sheet.specs.Border.{sheet_written, heading_given, length_left, written_left}

-- as many values as there are entries are all that stands there
pub over-all : (values memory : List ℕ) → length memory ≡ length values → values ≡ over values memory
unfolding over
over-all [] [] e = refl
over-all [] (x ∷ memory) e = absurd (let z : ⊥ = omega arith in z)
over-all (v ∷ values) [] e = absurd (let z : ⊥ = omega arith in z)
over-all (v ∷ values) (x ∷ memory) e =
    ap (λ l. v ∷ l) (over-all values memory (let z : length memory ≡ length values = omega arith in z))

-- ---- read

module _ (settings counts amounts rates species : List ℕ) (line : ℕ) (amounts' rates' species' : List ℕ) where
  abbrev pub LeftRead : Read → ℕ → List ℕ → List ℕ → ℕ → Type 0
  LeftRead x n settings' counts' line' =
      amounts' ≡ amounts_left x amounts → rates' ≡ rates_left x rates → species' ≡ species_left x species
      → sheet_read n settings' counts' amounts' rates' species' line'
      ≡ read_left x settings counts amounts rates species line

  pub left-read : (x : Read) (h : Heading) {settings' counts' : List ℕ} → answer_of x ≡ Ok h
      → settings' ≡ over (setting_words h) settings → counts' ≡ over (count_words h) counts
      → LeftRead x 0 settings' counts' line
  unfolding answer_of read_left
  left-read (accepted m) h q e f ea er es = let z : heading_of m ≡ h = cc in rw (ea, er, es, e, f, ← z)
  left-read (malformed k) h q e f ea er es = absurd (let z : ◌≡◌ {A = ℕ} 0 1 = cc in let y : ⊥ = omega arith in y)
  left-read too_long h q e f ea er es = absurd (let z : ◌≡◌ {A = ℕ} 0 1 = cc in let y : ⊥ = omega arith in y)

  pub left-line : (x : Read) (k : ℕ) → answer_of x ≡ Err (error.Malformed k) → LeftRead x 20 settings counts k
  unfolding answer_of read_left amounts_left rates_left species_left
  left-line (accepted m) k q ea er es = absurd (let z : ◌≡◌ {A = ℕ} 0 1 = cc in let y : ⊥ = omega arith in y)
  left-line (malformed j) k q ea er es = let z : j ≡ k = cc in rw (ea, er, es, z)
  left-line too_long k q ea er es = absurd (let z : ◌≡◌ {A = ℕ} 0 1 = cc in let y : ⊥ = omega arith in y)

  pub left-long : (x : Read) → answer_of x ≡ Err error.TooLong → LeftRead x 21 settings counts line
  unfolding answer_of read_left amounts_left rates_left species_left
  left-long (accepted m) q ea er es = absurd (let z : ◌≡◌ {A = ℕ} 0 1 = cc in let y : ⊥ = omega arith in y)
  left-long (malformed j) q ea er es = absurd (let z : ◌≡◌ {A = ℕ} 0 1 = cc in let y : ⊥ = omega arith in y)
  left-long too_long q ea er es = rw (ea, er, es)

-- ---- written

module _ (settings counts amounts rates species sheet : List ℕ) (long : ℕ) where
  abbrev pub LeftWritten : ℕ → List ℕ → ℕ → Type 0
  LeftWritten n sheet' long' =
      sheet_written n sheet' long' ≡ written_left settings counts amounts rates species sheet long

  pub left-unknown : {n : ℕ} → 1 < get_or settings 5 0 → n ≡ number_of (Err NoModel) → LeftWritten n sheet long
  unfolding written_left
  left-unknown l e = rw e (sym (pick_yes _ _ (lt-ltb 1 (get_or settings 5 0) l)))

  pub left-written : (h : Heading) (answer : Writing) {n : ℕ} {sheet' : List ℕ} {long' : ℕ}
      → get_or settings 5 0 ≤ 1 → h ≡ heading_given settings counts
      → answer ≡ write_answer_of h amounts rates species sheet → sheet' ≡ bytes_left h amounts rates species sheet
      → n ≡ number_of answer → long' ≡ length_left answer long → LeftWritten n sheet' long'
  unfolding written_left
  left-written h answer l eh ea es en el =
      rw (en, el, es, ea, eh) (sym (pick_no _ _ (le-ltb 1 (get_or settings 5 0) l)))
