-- `amounts_fit` meets its contract.
use mathlib.Core.Path.{refl}
use Rattle.state.specs.Memory.{amounts_fit}
use Rattle.opening.proofs.checks.amounts_fit.Goals as goal

pub returns : goal.returns
unfolding amounts_fit
returns c = refl
