-- The three loops that lu.rs has for a complex multiplier are one loop that asks for the case in each turn.
use Prim.Native.Nat.{ℕ, ◌+◌, ◌<◌}
use mathlib.Core.Bool.{Bool, true, false, not}
use mathlib.Core.Path.{◌≡◌, refl, sym, ap, ◌∙◌}
use native.Mathlib.Omega.{arith}
use lib.Ieee.{Float, neg, eq, ne}
use Rattle.words.specs.Words.{◌⊗◌, double}
use Rattle.words.specs.Loop.{loop, pick}
use Rattle.words.proofs.Loops.{Any}
use Rattle.matrix.specs.declared.complex.Complex.{Complex}
use Rattle.matrix.specs.Complex.{complex, Parts, at_complex, size_complex, times_complex}
use Rattle.matrix.specs.LuComplex.{added_complex, real_at, imaginary_at, general_at, updated_complex, is_zero_complex}
use Rattle.matrix.specs.Reordered.{multiplied_of, multiplied_at}
use Rattle.matrix.proofs.Interchange.{alike, hoisted}

-- a branch of two results is the result of a branch
inside : {X Y : Type 0} (f : X → Y) (b : Bool) (x y : X) → pick b (f x) (f y) ≡ f (pick b x y)
unfolding pick
inside f true x y = refl
inside f false x y = refl

-- the test for zero and its opposite
zero-unequal : (x y : Float) → ne x y ≡ not (eq x y)
unfolding ne
zero-unequal x y = refl

pub not-zero : (t : Complex) → is_zero_complex t ≡ false → ne (size_complex t) (double 0) ≡ true
unfolding is_zero_complex
not-zero t e = zero-unequal (size_complex t) (double 0) ∙ ap not e

pub zero : (t : Complex) → is_zero_complex t ≡ true → ne (size_complex t) (double 0) ≡ false
unfolding is_zero_complex
zero t e = zero-unequal (size_complex t) (double 0) ∙ ap not e

module _ (n k j : ℕ) (t : Complex) (h : k < n) where
  turn : (i : ℕ) (a : Parts)
      → pick (eq t.im (double 0)) (real_at n k j t.re i a)
      (pick (eq t.re (double 0)) (imaginary_at n k j t.im i a) (general_at n k j t i a))
      ≡ multiplied_at n k j t i a
  unfolding real_at imaginary_at general_at multiplied_at multiplied_of
  turn i a =
      ap (pick (eq t.im (double 0)) (real_at n k j t.re i a))
      (inside (added_complex n i j a) (eq t.re (double 0))
      (complex (neg (at_complex a n i k).im ⊗ t.im) ((at_complex a n i k).re ⊗ t.im))
      (times_complex (at_complex a n i k) t))
      ∙ inside (added_complex n i j a) (eq t.im (double 0))
      (complex ((at_complex a n i k).re ⊗ t.re) ((at_complex a n i k).im ⊗ t.re)) _

  pub one-loop : (a : Parts)
      → pick (ne (size_complex t) (double 0)) (loop (multiplied_at n k j t) (k + 1) n a) a ≡ updated_complex n k j t a
  unfolding updated_complex
  one-loop a =
      ap (λ (s : Parts). pick (ne (size_complex t) (double 0)) s a)
      (sym
      (ap (pick (eq t.im (double 0)) (loop (real_at n k j t.re) (k + 1) n a))
      (hoisted (eq t.re (double 0)) (imaginary_at n k j t.im) (general_at n k j t) (k + 1) n a)
      ∙ hoisted (eq t.im (double 0)) (real_at n k j t.re)
      (λ (i : ℕ) (s : Parts). pick (eq t.re (double 0)) (imaginary_at n k j t.im i s) (general_at n k j t i s))
      (k + 1) n a
      ∙ alike Any
      (λ (i : ℕ) (s : Parts). pick (eq t.im (double 0)) (real_at n k j t.re i s)
      (pick (eq t.re (double 0)) (imaginary_at n k j t.im i s) (general_at n k j t i s)))
      (multiplied_at n k j t) (k + 1) n (omega arith) (λ i l₁ l₂ s q. tt) (λ i l₁ l₂ s q. turn i s) a tt))
