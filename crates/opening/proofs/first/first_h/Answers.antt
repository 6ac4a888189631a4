-- `first_h` meets its contract.
use Rattle.opening.specs.Opening.{first_step_of}
use Rattle.opening.proofs.first.first_h.Goals as goal

pub returns : goal.returns
unfolding first_step_of
returns c = rw (c.clamp.ensures, c.wished_step.ensures)
