-- Every constant is the double nearest to its number: one whole-number test runs over the table (`tested`), and one law
-- turns it into the rule at each entry.
use Prim.Native.Nat.{ℕ, ◌+◌, ◌-◌, ◌*◌, ◌<◌}
use mathlib.Core.Bool.{Bool}
use lib.Dec.{T, leb}
use lib.ListN.{get_or}
use lib.Ieee.{nan, binary64, of_bits, to_bits}
use lib.Ieee.Fits.{and_l, and_r}
use Rattle.words.specs.Loop.{pick}
use Rattle.words.specs.Patterns.{units, units_in_one}
use Rattle.words.specs.Constants.{Constant, constant, constants, Nearest, Right, nearest}
use Rattle.words.proofs.Table.{every, at_each}

right : ℕ → Constant → Bool
right k c = nearest (to_bits binary64 c.value) c.over c.under

tested : T (every right 0 constants)
unfolding right nearest units units_in_one pick of_bits to_bits
tested = tt

split : (b p q : ℕ) → T (nearest b p q) → Nearest b p q
unfolding nearest
split b p q t =
    let lower = leb ((units (b - 1) + units b) * q) (2 * p * units_in_one) in
    let upper = leb (2 * p * units_in_one) ((units b + units (b + 1)) * q) in
    record { lower = and_l lower upper t; upper = and_r lower upper t }

pub constant-right-proof : (k : ℕ) → k < 23 → Right (get_or constants k (constant nan 0 1))
unfolding right
constant-right-proof k h = split _ _ _ (at_each right (constant nan 0 1) constants tested k h)
