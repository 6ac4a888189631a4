-- The Rust's power calls, directed to roots and whole powers (01): 'Exponent 2/3 is the third root squared, 0.8 the
-- fifth root's fourth power, 0.25 the fourth root, .. the exponent -1/m is 1 divided by the root of order m.'
use Rattle.std.specs.Prelude.{ℕ, Float}
use Rattle.words.specs.Words.{◌⊘◌}
use Rattle.words.specs.Constants.{«1·0»}
use Rattle.scalar.specs.Products.{power_of}
use Rattle.scalar.specs.Root.{root_of}

abbrev pub two_thirds_of : Float → Float
two_thirds_of v = power_of 2 (root_of 3 v)

abbrev pub four_fifths_of : Float → Float
four_fifths_of v = power_of 4 (root_of 5 v)

abbrev pub quarter_of : Float → Float
quarter_of v = root_of 4 v

abbrev pub inverse_root_of : ℕ → Float → Float
inverse_root_of m v = «1·0» ⊘ root_of m v
