-- Squares keep the order of whole numbers, and show it.
use Prim.Native.Nat.{ℕ, zero, suc, ◌*◌, ◌≤◌, ◌<◌}
use mathlib.Core.Path.{subst}
use native.Mathlib.Nat.{le_trans, le_of_lt, lt_of_le_of_lt, lt_of_not-le, not-le_of_lt}
use native.Mathlib.Nat.{mul-one, mul-le-mul_left, mul-le-mul_right, mul-lt-mul_of_pos_right}
use native.Mathlib.Decide.{dec_le}
use native.Mathlib.Omega.{arith}

pub square-mono : {a b : ℕ} → a ≤ b → a * a ≤ b * b
square-mono {a} {b} h = le_trans (mul-le-mul_left a h) (mul-le-mul_right b h)

pub square-strict : {a b : ℕ} → a < b → a * a < b * b
square-strict {a} {b} h = lt_of_le_of_lt (mul-le-mul_left a (le_of_lt h)) (mul-lt-mul_of_pos_right h (omega arith))

pub square-shows : {a b : ℕ} → a * a < b * b → a < b
square-shows {a} {b} h = by (dec_le b a)
  where
    by : Dec (b ≤ a) → a < b
    by (yes g) = absurd (not-le_of_lt h (square-mono g))
    by (no g) = lt_of_not-le g

pub square_above : (q : ℕ) → q ≤ q * q
square_above zero = omega arith
square_above (suc k) = subst (λ (x : ℕ). x ≤ suc k * suc k) (mul-one (suc k)) (mul-le-mul_left (suc k) (omega arith))
