-- One way to compute the square root, for contracts to cite. Nobody need believe it: `sqrt-is` and `sqrt-only` say that
-- it gives what specs/SquareRoot.antt asks, and nothing else does.
use Rattle.std.specs.Prelude.{ℕ, zero, suc, ◌+◌, ◌-◌, ◌*◌, ◌%◌, Bool, true, false, ◌&&◌, ◌||◌, ltb, eqb, Float}
use Rattle.std.specs.Float.{nan, inf, fin}
use Rattle.words.specs.Words.{double}
use Rattle.words.specs.Patterns.{units, infinity_pattern}
use Rattle.scalar.specs.Halving.{halve}
use Rattle.scalar.specs.SquareRoot.{square_of}

-- twice the middle between the double with the pattern b and the one below it
unfoldable pub border : ℕ → ℕ
border b = units (b - 1) + units b

-- that middle is below the root of n, or is the root and b is even: so the nearest pattern is b or one above it
unfoldable pub reaches : ℕ → ℕ → Bool
reaches n b = ltb (border b * border b) (4 * n) || (eqb (border b * border b) (4 * n) && eqb (b % 2) 0)

-- the greatest such pattern
unfoldable pub nearest_root : ℕ → ℕ
nearest_root n = halve 63 (reaches n) 0 infinity_pattern

unfoldable pub sqrt_of : Float → Float
sqrt_of nan = nan
sqrt_of (inf true) = nan
sqrt_of (inf false) = inf false
sqrt_of (fin s zero e) = fin s zero e
sqrt_of (fin true (suc m) e) = nan
sqrt_of (fin false (suc m) e) = double (nearest_root (square_of (fin false (suc m) e)))
