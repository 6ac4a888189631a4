-- `perturbation` meets its contract.
use Rattle.solve_blocks.specs.Jacobian.{perturbation}
use Rattle.radau_core.proofs.jacobian.perturbation.Goals as goal

pub returns : goal.returns
unfolding perturbation
returns c = rw (c.max.ensures, c.abs.ensures)
