-- `nind1` meets its contract.
use Rattle.opening.specs.Opening.{nind1_of}
use Rattle.opening.proofs.first.nind1.Goals as goal

pub returns-in-None : goal.returns-in-None
unfolding nind1_of
returns-in-None c = rw c.in-None.is c.left_of.ensures

pub returns-in-Some : goal.returns-in-Some
unfolding nind1_of
returns-in-Some c = rw c.in-Some.is
