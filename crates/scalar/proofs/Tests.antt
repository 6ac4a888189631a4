-- What the code's tests of one double say of it: `x < 0.0`, `0.0 < x`, `x == 0.0`, `x == f64::INFINITY` and `x != x`,
-- each as a function of the double's form. Every proof that goes by such tests cites these laws, then goes by form.
use Prim.Native.Nat.{ℕ, zero, suc, ◌+◌, ◌*◌, ◌<◌}
use mathlib.Core.Path.{◌≡◌, refl, sym, subst, ◌∙◌}
use mathlib.Core.Bool.{Bool, true, false, not}
use native.Mathlib.Nat.{zero-mul, mul-pos, zero-lt-suc}
use native.Mathlib.Omega.{arith}
use lib.Dec.{T, lt→ltb}
use lib.IntN.{ℤ}
use lib.Ieee.{Float, nan, inf, fin, lt, eq, ne, is_nan, of_bits, up, down}
use lib.Ieee.Fits.{up_pos}
use lib.Ieee.Positive.{positive}
use borrow.Author.Tests.{lt-ltb, le-ltb, eq-eqb, ne_eqb}
use Rattle.words.specs.Words.{double}
use Rattle.words.specs.Constants.{«0·0»}

-- ---- the forms

abbrev pub negative : Float → Bool
negative nan = false
negative (inf s) = s
negative (fin s zero e) = false
negative (fin s (suc m) e) = s

abbrev pub above : Float → Bool
above nan = false
above (inf s) = not s
above (fin s zero e) = false
above (fin s (suc m) e) = not s

abbrev pub is_zero : Float → Bool
is_zero nan = false
is_zero (inf s) = false
is_zero (fin s zero e) = true
is_zero (fin s (suc m) e) = false

abbrev pub infinite : Float → Bool
infinite nan = false
infinite (inf s) = not s
infinite (fin s m e) = false

-- ---- small things

pub never : {X : Type 0} → true ≡ false → X
never p = absurd (subst T p tt)

-- a size above zero, and zero's
some : (m : ℕ) (e : ℤ) → 0 < suc m * up e * 1
some m e = mul-pos (mul-pos (zero-lt-suc m) (up_pos e)) (omega arith)

none : (e : ℤ) → 0 * up e * 1 ≡ 0
none e = omega (arith, zero-mul (up e))

zeros : (e : ℤ) → 0 * 1 * down e ≡ 0
zeros e = zero-mul (down e)

-- ---- the laws

pub below-zero : (x : Float) → lt x «0·0» ≡ negative x
unfolding lt of_bits
below-zero nan = refl
below-zero (inf s) = refl
below-zero (fin true zero e) = le-ltb 0 (0 * up e * 1 + 0 * 1 * down e) (omega (arith, none e, zeros e))
below-zero (fin false zero e) = le-ltb (0 * up e * 1) (0 * 1 * down e) (omega (arith, none e, zeros e))
below-zero (fin true (suc m) e) = lt-ltb 0 (suc m * up e * 1 + 0 * 1 * down e) (omega (arith, some m e))
below-zero (fin false (suc m) e) = le-ltb (suc m * up e * 1) (0 * 1 * down e) (omega (arith, zeros e))

pub above_zero : (x : Float) → lt «0·0» x ≡ above x
unfolding lt of_bits
above_zero nan = refl
above_zero (inf s) = refl
above_zero (fin true zero e) = refl
above_zero (fin false zero e) = le-ltb (0 * 1 * down e) (0 * up e * 1) (omega (arith, none e, zeros e))
above_zero (fin true (suc m) e) = refl
above_zero (fin false (suc m) e) = lt-ltb (0 * 1 * down e) (suc m * up e * 1) (omega (arith, some m e, zeros e))

pub equals-zero : (x : Float) → eq x «0·0» ≡ is_zero x
unfolding eq of_bits
equals-zero nan = refl
equals-zero (inf s) = refl
equals-zero (fin true zero e) =
    rw (eq-eqb (0 * up e * 1) (0 * 1 * down e) (none e ∙ sym (zeros e)), eq-eqb (0 * up e * 1) 0 (none e))
equals-zero (fin false zero e) = rw (eq-eqb (0 * up e * 1) (0 * 1 * down e) (none e ∙ sym (zeros e)))
equals-zero (fin s (suc m) e) = rw (ne_eqb (suc m * up e * 1) (0 * 1 * down e) (omega (arith, some m e, zeros e)))

pub equals-infinity : (x : Float) → eq x (double 0x7ff0_0000_0000_0000) ≡ infinite x
unfolding eq of_bits
equals-infinity nan = refl
equals-infinity (inf true) = refl
equals-infinity (inf false) = refl
equals-infinity (fin s m e) = refl

pub differs : (x : Float) → ne x x ≡ is_nan x
unfolding is_nan ne
differs nan = refl
differs (inf true) = refl
differs (inf false) = refl
differs (fin true m e) = rw (eq-eqb (m * up e * down e) (m * up e * down e) refl)
differs (fin false m e) = rw (eq-eqb (m * up e * down e) (m * up e * down e) refl)

-- what passes `x.is_nan()`, `x < 0.0`, `x == 0.0` and `x == f64::INFINITY` is finite and above zero
pub past-tests : (x : Float) → is_nan x ≡ false → negative x ≡ false
    → is_zero x ≡ false → infinite x ≡ false → T (positive x)
unfolding is_nan
past-tests nan a b c d = never a
past-tests (inf true) a b c d = never b
past-tests (inf false) a b c d = never d
past-tests (fin s zero e) a b c d = never c
past-tests (fin true (suc m) e) a b c d = never b
past-tests (fin false (suc m) e) a b c d = lt→ltb 0 (suc m) (zero-lt-suc m)

-- the code's NaN
pub nan_is : double 0x7ff8_0000_0000_0000 ≡ nan
unfolding of_bits
nan_is = refl
