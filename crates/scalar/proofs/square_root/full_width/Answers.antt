-- `full_width` meets its contract. The number is below 2 ^ 52, so 12 to 63 of its 64 digits are leading zeros: a shift
-- by all but 11 of them loses no digit, and 53 are left.
use Prim.Native.Nat.{◌≤◌}
use borrow.Author.Rules.{rules}
use lib.Count.{count_leading_zeros}
use native.Mathlib.Omega.{arith}
use Rattle.scalar.proofs.DigitLaws.{zeros-least, zeros-most, widened}
use Rattle.scalar.proofs.square_root.full_width.Goals as goal

pub overflow_sub-shift : goal.overflow_sub-shift
overflow_sub-shift c =
    let zeros-fit : (12 ≤ count_leading_zeros 64 c.args.b) × (count_leading_zeros 64 c.args.b ≤ 63) =
    (zeros-least _ c.requires.0 c.requires.1, zeros-most _ c.requires.0 c.requires.1) in
    omega (arith, zeros-fit.0)

pub overflow_cast-result : goal.overflow_cast-result
overflow_cast-result c =
    let zeros-fit : (12 ≤ count_leading_zeros 64 c.args.b) × (count_leading_zeros 64 c.args.b ≤ 63) =
    (zeros-least _ c.requires.0 c.requires.1, zeros-most _ c.requires.0 c.requires.1) in
    search (rules, zeros-fit.1)

pub overflow_shl-result : goal.overflow_shl-result
overflow_shl-result c =
    let zeros-fit : (12 ≤ count_leading_zeros 64 c.args.b) × (count_leading_zeros 64 c.args.b ≤ 63) =
    (zeros-least _ c.requires.0 c.requires.1, zeros-most _ c.requires.0 c.requires.1) in
    omega (arith, zeros-fit.1)

pub overflow_cast-result-2 : goal.overflow_cast-result-2
overflow_cast-result-2 c =
    let zeros-fit : (12 ≤ count_leading_zeros 64 c.args.b) × (count_leading_zeros 64 c.args.b ≤ 63) =
    (zeros-least _ c.requires.0 c.requires.1, zeros-most _ c.requires.0 c.requires.1) in
    search (rules, zeros-fit.1)

pub overflow_sub-result : goal.overflow_sub-result
overflow_sub-result c =
    let zeros-fit : (12 ≤ count_leading_zeros 64 c.args.b) × (count_leading_zeros 64 c.args.b ≤ 63) =
    (zeros-least _ c.requires.0 c.requires.1, zeros-most _ c.requires.0 c.requires.1) in
    omega (arith, zeros-fit.1)

pub returns : goal.returns
returns c = widened c.args.b c.requires.0 c.requires.1
