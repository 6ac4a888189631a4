-- What the square root of a double is, by IEEE 754 (5.4.1, 6.3, 7.2): the double nearest to the exact root, of
-- two equally near the one whose last digit is even. Stated by whole numbers, for every double, and of no way
-- to compute it. That there is such a result, and only one, are theorems (proofs/Theorems.antt); that `sqrt`
-- returns it is its contract.
use Rattle.std.specs.Prelude.{ℕ, suc, ◌+◌, ◌*◌, ◌%◌, ◌≤◌, ◌<◌, ◌≡◌, Bool, true, false, ℤ, Float}
use Rattle.std.specs.Float.{nan, inf, fin, binary64}
use Rattle.std.specs.Float.Ieee.{to_bits}
use Rattle.words.specs.Words.{double}
use Rattle.words.specs.Patterns.{units, units_in_one, infinity_pattern}

-- the exact root of x, in units of the smallest double, is the root of this whole number: x is `units` * 2 ^ -1074, and
-- the square of a unit 2 ^ -2148
unfoldable pub square_of : Float → ℕ
square_of x = units (to_bits binary64 x) * units_in_one

-- No double is nearer to the root of n than that of pattern b: of the middle between b and any other c, twice which is
-- `units b + units c`, the root lies on b's side (4 n against its square); on a middle the last digit of b is even.
pub record Nearest (n b : ℕ) : Type 0 where
  pub under : (c : ℕ) → b < c → c < infinity_pattern → 4 * n ≤ (units b + units c) * (units b + units c)
  pub over : (c : ℕ) → c < b → (units b + units c) * (units b + units c) ≤ 4 * n
  pub even : (c : ℕ) → (b ≡ c → ⊥) → c < infinity_pattern → 4 * n ≡ (units b + units c) * (units b + units c) → b % 2 ≡
      0

-- r is the square root of x
pub data IsSquareRoot : Float → Float → Type 0 where
  of_nan : IsSquareRoot nan nan
  of-infinity : IsSquareRoot (inf false) (inf false)
  of-minus-infinity : IsSquareRoot (inf true) nan
  of_zero : (s : Bool) (e : ℤ) → IsSquareRoot (fin s 0 e) (fin s 0 e)
  of_negative : (m : ℕ) (e : ℤ) → IsSquareRoot (fin true (suc m) e) nan
  of_positive : (m : ℕ) (e : ℤ) (b : ℕ) → b < infinity_pattern → Nearest (square_of (fin false (suc m) e)) b
      → IsSquareRoot (fin false (suc m) e) (double b)
