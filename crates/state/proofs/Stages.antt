-- A run at any stage but an ended one has no result.
use Rattle.std.proofs.Common.{◌≡◌, refl, None}
use Rattle.state.specs.declared.run.Run.{Run}
use Rattle.state.specs.declared.run.Stage.{Stage}
use Rattle.state.specs.declared.run.Stage.TheVariants as stage
use Rattle.state.specs.declared.run.Status.{Status}
use Rattle.state.specs.Result.{result_at}

pub not-ended : (r : Run) (s : Stage) → ((x : Status) → s ≡ stage.Ended x → ⊥) → None ≡ result_at r s
unfolding result_at
not-ended r stage.FirstDerivative h = refl
not-ended r stage.FirstReport h = refl
not-ended r stage.FirstDerivativeAgain h = refl
not-ended r stage.Jacobian h = refl
not-ended r (stage.Column c) h = refl
not-ended r stage.Newton1 h = refl
not-ended r stage.Newton2 h = refl
not-ended r stage.Newton3 h = refl
not-ended r stage.Refinement h = refl
not-ended r stage.Accepted h = refl
not-ended r stage.Report h = refl
not-ended r stage.DerivativeAgain h = refl
not-ended r (stage.Ended x) h = absurd (h x refl)
