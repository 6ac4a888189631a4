-- The root of order m, as 01 words it: 'Root of order m of a positive finite v: halve between the bit patterns of +0
-- and infinity, middle rounded down, keeping below every number whose m-fold product, from the left, doesn't exceed v;
-- the lower end is the answer when the ends are neighbours. Zero gives +0, infinity itself, negative or NaN gives NaN,
-- and so, before all these, does an order outside 1 to 17.' It stays this plain halving; the code may be faster.
use Rattle.std.specs.Prelude.{ℕ, zero, suc, Bool, true, false, ◌&&◌, leb, pos, Float}
use Rattle.std.specs.Float.{nan, inf, fin}
use Rattle.std.specs.Float.Ieee.{le}
use Rattle.words.specs.Words.{double}
use Rattle.words.specs.Loop.{pick}
use Rattle.scalar.specs.Products.{product}
use Rattle.words.specs.Patterns.{infinity_pattern}
use Rattle.scalar.specs.Halving.{halve}

-- the number with the pattern b is kept below: its m-fold product doesn't exceed v
unfoldable pub keeps : ℕ → Float → ℕ → Bool
keeps m v b = le (product m (double b)) v

-- the root of a v that is positive and finite
unfoldable pub halved_root : ℕ → Float → Float
halved_root m v = double (halve 63 (keeps m v) 0 infinity_pattern)

unfoldable pub root_of_form : ℕ → Float → Float
root_of_form m nan = nan
root_of_form m (inf true) = nan
root_of_form m (inf false) = inf false
root_of_form m (fin s zero e) = fin false 0 (pos 0)
root_of_form m (fin true (suc n) e) = nan
root_of_form m (fin false (suc n) e) = halved_root m (fin false (suc n) e)

unfoldable pub root_of : ℕ → Float → Float
root_of m v = pick (leb 1 m && leb m 17) (root_of_form m v) nan
