-- `put_digits` meets its contract: with the digits that are left to put, memory is what it is to be.
use Rattle.std.proofs.Common.{◌<◌, ◌∙◌, arith}
use Rattle.forecast_text.proofs.DigitLaws.{last_byte, last-turn, digits-put}
use Rattle.forecast_text.proofs.numerals.put_digits.Goals as goal

pub loop-place-preserved : goal.loop-place-preserved
loop-place-preserved c =
    let some : 0 < c.args.base = omega arith in
    let turn = last-turn c.args.base some c.loop-place.place c.loop-place.rest c.args.at c.loop-place.out
    c.loop-place-test.true in
    rw (c.digit_byte.ensures ∙ last_byte c.loop-place.rest c.args.base some c.requires.base.1)
    (turn ∙ c.loop-place.invariant)

pub returns : goal.returns
returns c =
    digits-put _ _ _ c.loop-place.place _ c.args.at c.loop-place-test.false c.loop-place.invariant
