-- `beyond_square` meets its contract.
use Rattle.scalar.specs.Steps.{Remains}
use Rattle.scalar.proofs.DigitLaws.{beyond}
use Rattle.scalar.proofs.digits.beyond_square.Goals as goal

pub returns : goal.returns
unfolding Remains
returns c = record {
  sum = beyond _ _ _ _ _ c.in_ok-d.ensures c.in_ok-e.ensures c.in_ok-rem.ensures;
  left = c.if-q-rem.false;
}
