-- `given_fit` meets its contract.
use mathlib.Core.Path.{refl}
use Rattle.state.specs.Memory.{given_fit}
use Rattle.opening.proofs.checks.given_fit.Goals as goal

pub returns : goal.returns
unfolding given_fit
returns c = refl
