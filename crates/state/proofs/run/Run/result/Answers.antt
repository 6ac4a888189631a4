-- `result` meets its contract.
use Rattle.state.specs.Result.{result_at}
use Rattle.state.proofs.Stages.{not-ended}
use Rattle.state.proofs.run.Run.result.Goals as goal

pub returns-in_default : goal.returns-in_default
returns-in_default c = not-ended c.args.self _ c.in_default.not-Ended

pub returns : goal.returns
unfolding result_at
returns c = rw (c.largest_stride.ensures, c.smallest_stride.ensures, c.blamed.ensures, c.in-Ended.is)
