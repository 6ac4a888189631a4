-- `updated` meets its contract.
use Rattle.solve_blocks.specs.Newton.{updated_of}
use Rattle.radau_core.proofs.newton.updated.Goals as goal

pub returns : goal.returns
unfolding updated_of
returns c = rw (← c.add.ensures, ← c.back.ensures)
