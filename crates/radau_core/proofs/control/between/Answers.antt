-- `between` meets its contract.
use Rattle.solve_blocks.specs.Judge.{between}
use Rattle.radau_core.proofs.control.between.Goals as goal

pub returns : goal.returns
unfolding between
returns c = rw (c.max.ensures, c.min.ensures)
