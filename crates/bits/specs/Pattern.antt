-- The pattern of a double, with one for NaN.
use Rattle.std.specs.Prelude.{ℕ, Float}
use Rattle.std.specs.Float.{binary64}
use Rattle.std.specs.Float.Ieee.{ne, to_bits}
use Rattle.words.specs.Loop.{pick}

abbrev pub pattern_of : Float → ℕ
pattern_of x = pick (ne x x) 0x7ff8_0000_0000_0000 (to_bits binary64 x)
