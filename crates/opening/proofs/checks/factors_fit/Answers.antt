-- `factors_fit` meets its contract.
use mathlib.Core.Path.{refl}
use Rattle.state.specs.Memory.{factors_fit}
use Rattle.opening.proofs.checks.factors_fit.Goals as goal

pub returns : goal.returns
unfolding factors_fit
returns c = refl
