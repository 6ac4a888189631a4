-- `wide_digits` meets its contract: m with as many pairs of zeros as were taken has the root so far.
use Rattle.std.proofs.Common.{arith}
use Rattle.scalar.proofs.DigitLaws.{digits_of, zeros-more}
use Rattle.scalar.proofs.digits.wide_digits.Goals as goal

pub loop-preserved : goal.loop-preserved
loop-preserved c = let l = c.loop in
    (omega arith, digits_of c.digit-cut.ensures (zeros-more _ l.counter _ l.invariant.1.sum))
