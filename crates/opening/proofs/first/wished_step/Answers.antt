-- `wished_step` meets its contract.
use Rattle.opening.specs.Opening.{wished_step}
use Rattle.opening.proofs.first.wished_step.Goals as goal

pub returns-in-Some : goal.returns-in-Some
unfolding wished_step
returns-in-Some c = rw (c.in-Some.is, c.abs.ensures)

pub returns-in-None : goal.returns-in-None
unfolding wished_step
returns-in-None c = rw c.in-None.is
