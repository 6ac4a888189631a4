-- `within` meets its contract.
use Rattle.shelf.specs.Shelf.{holds}
use Rattle.shelf.proofs.finding.within.Goals as goal

pub returns-then-reach-x : goal.returns-then-reach-x
unfolding holds
returns-then-reach-x c = rw (← c.bounds-reach.ensures, c.if-reach-x.true)

pub returns-else-reach-x : goal.returns-else-reach-x
unfolding holds
returns-else-reach-x c = rw (← c.bounds-reach.ensures, c.if-reach-x.false)
