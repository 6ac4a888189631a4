-- `atol_at` meets its contract.
use Rattle.solve_blocks.specs.Entries.{atol_at}
use Rattle.radau_core.proofs.entries.atol_at.Goals as goal

pub returns-in-Scalars : goal.returns-in-Scalars
unfolding atol_at
returns-in-Scalars c = rw c.in-Scalars.is

pub returns-in-Lists : goal.returns-in-Lists
unfolding atol_at
returns-in-Lists c = rw c.in-Lists.is
