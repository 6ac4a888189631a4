-- `fixed` meets its contract.
use Rattle.opening.specs.Opening.{fixed_of}
use Rattle.opening.proofs.first.fixed.Goals as goal

pub returns : goal.returns
unfolding fixed_of
returns c = rw (
  c.floor.ensures,
  c.ceiling.ensures,
  c.signum.ensures,
  c.newton_tolerance.ensures,
)
