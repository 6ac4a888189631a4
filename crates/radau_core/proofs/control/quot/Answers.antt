-- `quot` meets its contract.
use Rattle.solve_blocks.specs.Judge.{quot_of}
use Rattle.radau_core.proofs.control.quot.Goals as goal

pub returns : goal.returns
unfolding quot_of
returns c = rw (c.between.ensures, c.fac.ensures, c.quarter.ensures)
