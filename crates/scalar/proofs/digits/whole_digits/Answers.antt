-- `whole_digits` meets its contract: the digits that were taken, all of m but the last `left`
-- pairs, have the root so far.
use Rattle.std.proofs.Common.{arith}
use Rattle.scalar.proofs.DigitLaws.{digits_of, two-more}
use Rattle.scalar.proofs.digits.whole_digits.Goals as goal

pub loop-left-preserved : goal.loop-left-preserved
loop-left-preserved c = let l = c.loop-left in
    (omega arith, digits_of c.digit-cut.ensures (two-more _ l.left _ c.loop-left-test.true l.invariant.1.sum))
