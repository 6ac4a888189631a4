-- `rtol_at` meets its contract.
use Rattle.solve_blocks.specs.Entries.{rtol_at}
use Rattle.radau_core.proofs.entries.rtol_at.Goals as goal

pub returns-in-Scalars : goal.returns-in-Scalars
unfolding rtol_at
returns-in-Scalars c = rw c.in-Scalars.is

pub returns-in-Lists : goal.returns-in-Lists
unfolding rtol_at
returns-in-Lists c = rw c.in-Lists.is
