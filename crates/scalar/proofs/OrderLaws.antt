-- The laws of specs/Order.antt: the answer of each way out of `abs` and `signum`, by what the code's tests found;
-- and that of two doubles which compare equal only zeros can differ (`equal-same`), so that max and min seldom choose.
use Prim.Native.Nat.{ℕ, zero, suc, ◌+◌, ◌-◌, ◌*◌, ◌/◌, ◌^◌, ◌<◌}
use mathlib.Core.Path.{◌≡◌, refl, sym, ap, ◌∙◌}
use mathlib.Core.Bool.{Bool, true, false, cond, ◌&&◌, ◌||◌, beq}
use native.Mathlib.Nat.{mul_comm, mul_right_comm, mul-div-mul_right, mul-pos, zero-lt-suc}
use native.Mathlib.Omega.{arith}
use lib.Dec.{T, eqb}
use lib.IntN.{ℤ}
use lib.Ieee.{Float, nan, inf, fin, binary64, eq, fits, size, top, hid, to_bits, up}
use lib.Ieee.{down}
use lib.Ieee.Fits.{up_pos, down_pos}
use lib.Ieee.Bits.{of_bits-to_bits}
use borrow.Author.Tests.{eqb-true, ne_eqb}
use Rattle.std.specs.Float.{float_with_sign, float_signum}
use Rattle.words.specs.Words.{double}
use Rattle.scalar.specs.Order.{abs_of, signum_of}
use Rattle.scalar.proofs.Tests.{is_zero, never}

-- ---- the library's own

pub abs-is : (x : Float) → float_with_sign false x ≡ abs_of x
unfolding abs_of float_with_sign
abs-is nan = refl
abs-is (inf s) = refl
abs-is (fin s m e) = refl

pub signum-is : (x : Float) → float_signum x ≡ signum_of x
unfolding signum_of float_signum
signum-is nan = refl
signum-is (inf s) = refl
signum-is (fin s m e) = refl

-- ---- two doubles that compare equal are the same, but for zeros

same_sign : (s t : Bool) → beq s t ≡ true → s ≡ t
same_sign true true h = refl
same_sign true false h = never (sym h)
same_sign false true h = never (sym h)
same_sign false false h = refl

both-pass : (p q : Bool) → p && q ≡ true → (p ≡ true) × (q ≡ true)
both-pass true q h = (refl, h)
both-pass false q h = never (sym h)

either-passes : (p q : Bool) → q ≡ false → p || q ≡ true → p ≡ true
either-passes true q f h = refl
either-passes false q f h = never (sym h ∙ f)

-- equal fractions a / c and b / d are the same number of units
cross : (a b c d l : ℕ) → 0 < c → 0 < d → a * d ≡ b * c → a * l / c ≡ b * l / d
cross a b c d l hc hd h =
    let left : a * l * d ≡ b * l * c = mul_right_comm a l d ∙ ap (λ (x : ℕ). x * l) h ∙ mul_right_comm b c l in
    sym (mul-div-mul_right (a * l) c hd) ∙ ap (λ (x : ℕ). x / (c * d)) left
    ∙ ap (λ (x : ℕ). b * l * c / x) (mul_comm c d) ∙ mul-div-mul_right (b * l) d hc

same-pattern : (s : Bool) (m n : ℕ) (e d : ℤ) → m * up e * down d ≡ n * up d * down e
    → to_bits binary64 (fin s m e) ≡ to_bits binary64 (fin s n d)
unfolding to_bits
same-pattern s m n e d h =
    ap (λ (u : ℕ). cond s (top binary64) 0 + (size u - 53) * hid binary64 + u / 2 ^ (size u - 53))
    (cross (m * up e) (n * up d) (down e) (down d) (2 ^ 1074) (down_pos e) (down_pos d) h)

pub equal-same : (x y : Float) → T (fits binary64 x) → T (fits binary64 y) → is_zero x ≡ false → eq x y ≡ true → x ≡ y
unfolding eq
equal-same nan y f g z h = never (sym h)
equal-same (inf s) nan f g z h = never (sym h)
equal-same (inf s) (inf t) f g z h = ap inf (same_sign s t h)
equal-same (inf s) (fin t n d) f g z h = never (sym h)
equal-same (fin s zero e) y f g z h = never z
equal-same (fin s (suc m) e) nan f g z h = never (sym h)
equal-same (fin s (suc m) e) (inf t) f g z h = never (sym h)
equal-same (fin s (suc m) e) (fin t n d) f g z h =
    let some : 0 < suc m * up e * down d = mul-pos (mul-pos (zero-lt-suc m) (up_pos e)) (down_pos d) in
    let p =
    both-pass (eqb (suc m * up e * down d) (n * up d * down e)) (beq s t || eqb (suc m * up e * down d) 0) h in
    let signs : s
    ≡ t = same_sign s t (either-passes (beq s t) (eqb (suc m * up e * down d) 0)
    (ne_eqb (suc m * up e * down d) 0 (omega arith)) p.1) in
    sym (of_bits-to_bits binary64 (fin s (suc m) e) f)
    ∙ ap (λ (b : ℕ). double b) (same-pattern s (suc m) n e d
    (eqb-true (suc m * up e * down d) (n * up d * down e) p.0)
    ∙ ap (λ (r : Bool). to_bits binary64 (fin r n d)) signs)
    ∙ of_bits-to_bits binary64 (fin t n d) g
