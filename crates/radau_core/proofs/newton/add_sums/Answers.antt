-- `add_sums` meets its contract.
use mathlib.Core.Path.{refl}
use Rattle.solve_blocks.specs.Newton.{add_sums}
use Rattle.radau_core.proofs.newton.add_sums.Goals as goal

pub returns : goal.returns
unfolding add_sums
returns c = refl
