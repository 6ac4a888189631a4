-- `combined` meets its contract.
use mathlib.Core.Path.{refl}
use Rattle.solve_blocks.specs.Entries.{combined}
use Rattle.radau_core.proofs.entries.combined.Goals as goal

pub returns : goal.returns
unfolding combined
returns c = refl
