-- `make` meets its contract.
use mathlib.Core.Path.{refl}
use Rattle.solve_blocks.specs.Reordered.{made_at}
use Rattle.radau_core.proofs.matrices.make.Goals as goal

pub returns : goal.returns
unfolding made_at
returns c = refl
