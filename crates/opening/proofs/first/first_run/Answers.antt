-- `first_run` meets its contract.
use Rattle.opening.specs.Opening.{first_run}
use Rattle.opening.proofs.first.first_run.Goals as goal

pub returns : goal.returns
unfolding first_run
returns c = rw (
  c.numbers.ensures,
  c.first_h.ensures,
  c.ceiling.ensures,
  c.signum.ensures,
  c.control.ensures,
  c.shape.ensures,
  c.fixed-fixed.ensures,
)
