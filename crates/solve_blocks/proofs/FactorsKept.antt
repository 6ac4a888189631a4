-- Outside the passes through the matrices an advance leaves the factors as they are.
use mathlib.Core.Path.{◌≡◌, refl}
use Rattle.state.specs.declared.run.Run.{Run}
use Rattle.state.specs.declared.run.Stage.{Stage}
use Rattle.state.specs.declared.run.Stage.TheVariants as stage
use Rattle.state.specs.declared.talk.Reply.{Reply}
use Rattle.state.specs.Memory.{Memory}
use Rattle.solve_blocks.specs.declared.step.Round.{Round}
use Rattle.solve_blocks.specs.declared.step.Round.TheVariants as round
use Rattle.solve_blocks.specs.declared.step.Heard.{Heard}
use Rattle.solve_blocks.specs.declared.step.Heard.TheVariants as heard
use Rattle.solve_blocks.specs.Report.{reported_of}
use Rattle.solve_blocks.specs.Advance.{started_of, conclude_of, replied_of}

started-same : (t : Heard) (m : Memory) → (started_of t m).memory.factors ≡ m.factors
unfolding started_of
started-same (heard.Asked c) m = refl
started-same (heard.Reported r) m = refl

conclude-same : (v : Round) (m : Memory) → (conclude_of v m).core.memory.factors ≡ m.factors
unfolding conclude_of
conclude-same (round.Newton r) m = refl
conclude-same (round.Estimate r) m = refl
conclude-same (round.Over s) m = refl

pub replied-same : (s : Stage) (p : Reply) (r : Run) (m : Memory)
    → (replied_of s p r m).core.memory.factors ≡ m.factors
unfolding replied_of
replied-same stage.FirstDerivative p r m = refl
replied-same stage.FirstReport p r m = started-same (reported_of stage.FirstDerivativeAgain p r) m
replied-same stage.FirstDerivativeAgain p r m = started-same (heard.Reported r) m
replied-same stage.Jacobian p r m = refl
replied-same (stage.Column c) p r m = refl
replied-same stage.Newton1 p r m = refl
replied-same stage.Newton2 p r m = refl
replied-same stage.Newton3 p r m = conclude-same _ _
replied-same stage.Refinement p r m = refl
replied-same stage.Accepted p r m = refl
replied-same stage.Report p r m = refl
replied-same stage.DerivativeAgain p r m = refl
replied-same (stage.Ended s) p r m = refl
