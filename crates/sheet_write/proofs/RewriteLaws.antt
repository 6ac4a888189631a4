-- A sheet that is rewritten: what was read goes through the writer, and comes out as it was.
use Prim.Native.Nat.{ℕ, ◌≤◌}
use mathlib.Core.Path.{◌≡◌, refl, sym, ap, ◌∙◌}
use mathlib.Core.List.{List, ◌++◌}
use native.Mathlib.Omega.{arith}
use lib.ListN.{length, take, drop}
use lib.Seq.{take-append_seam}
use Rattle.sheet.specs.declared.sheet.Heading.{Heading}
use Rattle.sheet.specs.declared.sheet.SheetError.{SheetError}
use Rattle.sheet.specs.declared.sheet.SheetError.TheVariants as error
use Rattle.std.proofs.Common.{Result, Ok, Err}
use Rattle.sheet.specs.Sheet.{Model}
use Rattle.sheet.specs.Reader.{heading_of, over, Read, accepted, malformed, too_long, read_of}
use Rattle.sheet.specs.Reader.{amounts_left, rates_left, species_left}
use Rattle.sheet.specs.Reader.{answer_of as read_answer_of}
use Rattle.sheet.proofs.FillLaws.{over-room}
use Rattle.sheet.proofs.Theorems.{accepted-exactly, written-short}
use Rattle.forecast_text.specs.Printed.{refusal_text, printed_of}
use Rattle.forecast_text.specs.Unread.{unread}
use Rattle.sheet_write.specs.Memory.{Arrays}
use Rattle.std.specs.Result.{result_unwrap_or}
use Rattle.sheet_write.specs.Writer.{Writing, answer_of, bytes_left}
use Rattle.sheet_write.specs.Rewritten.{rewritten_of, count_for}
use Rattle.sheet_write.proofs.RoundTripLaws.{left-holds, left-arrays, written_over}

-- what was put over the first entries stands there
pub over-taken : (bytes memory : List ℕ) {left : List ℕ} {n : ℕ} → left ≡ over bytes memory → n ≡ length bytes
    → length bytes ≤ length memory → take n left ≡ bytes
over-taken bytes memory {left} {n} e c l = rw (e, c, over-room bytes memory l) (take-append_seam bytes _)

-- how many bytes a call wrote
pub count-or-none : (x : Writing) → result_unwrap_or x 0 ≡ count_for x
unfolding count_for
count-or-none (Ok n) = refl
count-or-none (Err e) = refl

-- ---- a sheet that is accepted

pub rewritten-same-proof : (bytes : List ℕ) (m : Model) → read_of bytes ≡ accepted m
    → rewritten_of (read_of bytes) ≡ bytes
unfolding rewritten_of
rewritten-same-proof bytes m e = ap rewritten_of e ∙ sym ((accepted-exactly bytes m).0 e).0

module _ (bytes : List ℕ) (h : Heading) (a₀ r₀ s₀ out : List ℕ) (long : Arrays a₀ r₀ s₀)
    (room : 4096 ≤ length out) where
  abbrev Rewrote : List ℕ → List ℕ → List ℕ → Type 0
  Rewrote a r s =
      (bytes_left h a r s out ≡ over (rewritten_of (read_of bytes)) out)
      × (count_for (answer_of h a r s out) ≡ length (rewritten_of (read_of bytes)))

  rewrote-accepted : (m : Model) → read_of bytes ≡ accepted m → h ≡ heading_of m
      → Rewrote (amounts_left (accepted m) a₀) (rates_left (accepted m) r₀) (species_left (accepted m) s₀)
  unfolding count_for
  rewrote-accepted m e eh =
      let v = (accepted-exactly bytes m).0 e in
      let l : length bytes ≤ length out =
      omega (arith, ap length v.0, written-short m v.1) in
      let w = written_over (heading_of m) (amounts_left (accepted m) a₀) (rates_left (accepted m) r₀)
      (species_left (accepted m) s₀) out (left-arrays m a₀ r₀ s₀ long)
      (record { bytes = bytes; model = m; read = e; holds = left-holds m a₀ r₀ s₀ }) l in
      rw (eh, rewritten-same-proof bytes m e) (w.1, ap count_for w.0)

  rewrote-by : (x : Read) → read_of bytes ≡ x → read_answer_of x ≡ Ok h
      → Rewrote (amounts_left x a₀) (rates_left x r₀) (species_left x s₀)
  unfolding read_answer_of
  rewrote-by (accepted m) e q = rewrote-accepted m e (let z : h ≡ heading_of m = cc in z)
  rewrote-by (malformed k) e q = absurd (let z : ◌≡◌ {A = ℕ} 0 1 = cc in let y : ⊥ = omega arith in y)
  rewrote-by too_long e q = absurd (let z : ◌≡◌ {A = ℕ} 0 1 = cc in let y : ⊥ = omega arith in y)

  pub rewrote-model : (a r s : List ℕ) {n : ℕ} {left : List ℕ} → read_answer_of (read_of bytes) ≡ Ok h
      → a ≡ amounts_left (read_of bytes) a₀ → r ≡ rates_left (read_of bytes) r₀ → s ≡ species_left (read_of bytes) s₀
      → n ≡ count_for (answer_of h a r s out) → left ≡ bytes_left h a r s out
      → (left ≡ over (rewritten_of (read_of bytes)) out) × (n ≡ length (rewritten_of (read_of bytes)))
  rewrote-model a r s q ea er es en el =
      let w : Rewrote a r s = rw (ea, er, es) (rewrote-by (read_of bytes) refl q) in (el ∙ w.0, en ∙ w.1)

-- ---- one that is refused

refusal-same : (x : Read) {e : SheetError} → read_answer_of x ≡ Err e → printed_of (Err (unread e)) ≡ rewritten_of x
unfolding read_answer_of printed_of refusal_text rewritten_of
refusal-same (accepted m) q = absurd (let z : ◌≡◌ {A = ℕ} 0 1 = cc in let y : ⊥ = omega arith in y)
refusal-same (malformed k) {e} q = let same : e ≡ error.Malformed k = cc in rw same refl
refusal-same too_long {e} q = let same : e ≡ error.TooLong = cc in rw same refl

-- its line, copied over the first bytes
pub line-copied : (bytes line out : List ℕ) {n : ℕ} {left : List ℕ} → left ≡ over bytes line → n ≡ length bytes
    → length bytes ≤ length line → length bytes ≤ length out → take n left ++ drop n out ≡ over bytes out
line-copied bytes line out {n} e c l h =
    ap (λ b. b ++ drop n out) (over-taken bytes line e c l) ∙ ap (λ k. bytes ++ drop k out) c
    ∙ sym (over-room bytes out h)

-- what was put of it is what is printed
pub rewrote-refusal : (bytes out : List ℕ) {x : Result Heading SheetError} {e : SheetError} {n : ℕ} {left : List ℕ}
    → x ≡ read_answer_of (read_of bytes) → x ≡ Err e → left ≡ over (printed_of (Err (unread e))) out
    → n ≡ length (printed_of (Err (unread e)))
    → (left ≡ over (rewritten_of (read_of bytes)) out) × (n ≡ length (rewritten_of (read_of bytes)))
rewrote-refusal bytes out q r p c =
    let same = refusal-same (read_of bytes) (sym q ∙ r) in (
      p ∙ ap (λ b. over b out) same,
      c ∙ ap length same,
    )
