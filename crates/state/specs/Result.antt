-- The result, which only an ended run gives: h, the point reached, the status, the six counts, the blame and the
-- strides.
use Rattle.state.specs.declared.run.Notes.{Notes}
use Rattle.state.specs.declared.run.Run.{Run}
use Rattle.state.specs.declared.run.Stage.{Stage}
use Rattle.state.specs.declared.run.Stage.TheVariants as stage
use Rattle.state.specs.declared.run.Status.{Status}
use Rattle.state.specs.declared.run.Status.TheVariants as status
use Rattle.state.specs.declared.talk.Blame.{Blame}
use Rattle.state.specs.declared.talk.Blame.TheVariants as blame
use Rattle.state.specs.Numbers.{smallest_stride, largest_stride}
use Rattle.std.specs.Prelude.{None, Some, Option}
use Rattle.state.specs.declared.talk.IntegrationResult.{IntegrationResult}

-- only a status 5 tells of the latest singular decomposition (02, [3])
abbrev pub blame_of : Status → Notes → Blame
blame_of status.Success n = blame.Untold
blame_of status.UserInterrupt n = blame.Untold
blame_of status.NeedLargerNMax n = blame.Untold
blame_of status.StepSizeTooSmall n = blame.Untold
blame_of status.SingularMatrix n = blame.Latest n.singular

-- the Rust's result, with the point, the blame and the strides beside it [radau.rs:798]
unfoldable pub result_at : Run → Stage → Option IntegrationResult
result_at r stage.FirstDerivative = None
result_at r stage.FirstReport = None
result_at r stage.FirstDerivativeAgain = None
result_at r stage.Jacobian = None
result_at r (stage.Column c) = None
result_at r stage.Newton1 = None
result_at r stage.Newton2 = None
result_at r stage.Newton3 = None
result_at r stage.Refinement = None
result_at r stage.Accepted = None
result_at r stage.Report = None
result_at r stage.DerivativeAgain = None
result_at r (stage.Ended s) =
    Some (record {
      h = r.numbers.h;
      x = r.numbers.x;
      status = s;
      counts = r.counts;
      blame = blame_of s r.notes;
      smallest = smallest_stride r.notes.strides;
      largest = largest_stride r.notes.strides;
    })

abbrev pub result_of : Run → Option IntegrationResult
result_of r = result_at r r.stage
