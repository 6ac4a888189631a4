-- `guessed` meets its contract.
use mathlib.Core.Path.{refl}
use Rattle.solve_blocks.specs.Attempt.{guessed}
use Rattle.radau_core.proofs.attempt.guessed.Goals as goal

pub returns : goal.returns
unfolding guessed
returns c = refl
