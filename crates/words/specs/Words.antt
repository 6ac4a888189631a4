-- A double, its operations, each rounded once as IEEE 754 has it, and an entry of a list of doubles.
--     a ⊕ b, a ⊖ b, a ⊗ b, a ⊘ b    the sum, difference, product and quotient of two doubles, rounded to the nearest
--                                   double, ties to even
--     xs ! i                        entry i of a list, counted from 0 (past the end: a NaN, which no proved code reads)
--     double 0x..                   the double with the bit pattern 0x..; specs/Constants.antt names those in use
use Rattle.std.specs.Prelude.{ℕ, List, Float, get_or}
use Rattle.std.specs.Float.{nan, binary64}
use Rattle.std.specs.Float.Ieee.{add, sub, mul, div, of_bits}

infixl 65 ◌⊕◌ ◌⊖◌
infixl 70 ◌⊗◌ ◌⊘◌
infixl 90 ◌!◌
abbrev pub ◌⊕◌ : Float → Float → Float
a ⊕ b = add binary64 a b

abbrev pub ◌⊖◌ : Float → Float → Float
a ⊖ b = sub binary64 a b

abbrev pub ◌⊗◌ : Float → Float → Float
a ⊗ b = mul binary64 a b

abbrev pub ◌⊘◌ : Float → Float → Float
a ⊘ b = div binary64 a b

abbrev pub ◌!◌ : List Float → ℕ → Float
xs ! i = get_or xs i nan

abbrev pub double : ℕ → Float
double pattern = of_bits binary64 pattern
