-- Reports, and what follows them: the end, or the step of the next attempt (radau.rs:337-358, 719-779).
use Rattle.std.specs.Prelude.{Bool, true, false, ◌&&◌, ◌||◌, [], ◌∷◌, Float, None, Some, Option}
use Rattle.std.specs.Float.Ieee.{le, lt}
use Rattle.words.specs.Words.{◌⊕◌, ◌⊖◌, ◌⊗◌, ◌⊘◌}
use Rattle.words.specs.Constants.{«0·0», «1·0», «1·2»}
use Rattle.words.specs.Loop.{pick}
use Rattle.scalar.specs.Order.{abs_of, min_of, clamp_of}
use Rattle.state.specs.declared.run.Run.{Run}
use Rattle.state.specs.declared.run.Stage.{Stage}
use Rattle.state.specs.declared.run.Stage.TheVariants as stage
use Rattle.state.specs.declared.run.Status.TheVariants.{Success, UserInterrupt}
use Rattle.state.specs.declared.talk.Request.TheVariants as request
use Rattle.state.specs.declared.talk.Place.TheVariants.{Nowhere, YToF0}
use Rattle.state.specs.declared.talk.Reply.{Reply}
use Rattle.state.specs.declared.talk.Reply.TheVariants as reply
use Rattle.state.specs.declared.talk.Call.{Call}
use Rattle.solve_blocks.specs.declared.step.Heard.{Heard}
use Rattle.solve_blocks.specs.declared.step.Heard.TheVariants as heard
use Rattle.solve_blocks.specs.declared.step.Step.{Step}
use Rattle.solve_blocks.specs.declared.step.Step.TheVariants as step
use Rattle.solve_blocks.specs.Setters.{◌▸◌, in_control, in_numbers, at_stage}
use Rattle.solve_blocks.specs.Setters.{set_last, set_reject, set_call_jac, set_call_decomp}
use Rattle.solve_blocks.specs.Setters.{set_singular, set_here, set_x, set_h, set_hnew, set_hhfac, set_xout}
use Rattle.solve_blocks.specs.Events.{aimed, not-aimed, Logged, logged, quiet}
use Rattle.solve_blocks.specs.Attempt.{thet}
use Rattle.solve_blocks.specs.Matrices.{ask_derivative, ended_of}
use Rattle.state.specs.Talk.{call}

-- ---- a report is asked

-- no coefficients at the first [radau.rs:337-339]
abbrev pub ask_first_report : Run → Call
ask_first_report r =
    call (r ▸ at_stage stage.FirstReport) (request.Report r.numbers.xold r.numbers.x false) Nowhere

-- whether the mark is at most x, whatever the direction [radau.rs:719-722]
unfoldable pub is_due : Option Float → Float → Bool
is_due None x = false
is_due (Some xo) x = le xo x

-- [radau.rs:723-728]
unfoldable pub ask_report : Run → Call
ask_report r =
    call (r ▸ at_stage stage.Report)
    (request.Report r.numbers.xold r.numbers.x
    (r.settings.dense_output || is_due r.numbers.xout r.numbers.x))
    Nowhere

-- ---- and answered

-- the host has put the run at x, which counts as another point whatever its numbers, and the derivative there is
-- asked [radau.rs:349-353] [again radau.rs:734-738]
abbrev pub ask_modified : Stage → Float → Run → Call
ask_modified again x r = ask_derivative (r ▸ in_numbers (set_x x) ▸ in_control (set_here false)) again x YToF0

-- `again` is the stage of the derivative that a modified point asks for [radau.rs:340-348] [alike radau.rs:729-733]
unfoldable pub reported_of : Stage → Reply → Run → Heard
reported_of again reply.Filled r = heard.Reported r
reported_of again reply.Continue r = heard.Reported r
reported_of again reply.Interrupt r = heard.Asked (ended_of UserInterrupt r)
reported_of again (reply.Modified x) r = heard.Asked (ask_modified again x r)
-- [radau.rs:354-358] [again radau.rs:739-743]
reported_of again (reply.Mark xo) r = heard.Reported (r ▸ in_numbers (set_xout (Some xo)))

-- whether it breaks off
unfoldable pub is_interrupt : Reply → Bool
is_interrupt reply.Filled = false
is_interrupt reply.Continue = false
is_interrupt reply.Interrupt = true
is_interrupt (reply.Modified x) = false
is_interrupt (reply.Mark x) = false

-- ---- past a report

-- the new step, within its bounds, and after a rejection no longer than the last [radau.rs:754-761]
unfoldable pub hnew_of : Run → Float
hnew_of r =
    let hnew = clamp_of (abs_of r.numbers.hnew) r.fixed.hmin r.fixed.hmax ⊗ r.fixed.posneg in
    pick r.control.reject (r.fixed.posneg ⊗ min_of (abs_of hnew) (abs_of r.numbers.h)) hnew

-- the next attempt has the step h and new matrices, and a new Jacobian unless the iteration
-- converged fast [radau.rs:777-779]
abbrev pub fresh_of : Float → Run → Run
fresh_of h r =
    r ▸ in_numbers (set_h h) ▸ in_numbers (set_hhfac h) ▸ in_control (set_call_decomp true)
    ▸ in_control (set_call_jac (le thet r.numbers.theta))

-- a step that hardly grows is dropped, and everything kept as it is [radau.rs:767-776]
unfoldable pub grown_of : Run → Float → Run
grown_of r hnew =
    let qt = hnew ⊘ r.numbers.h in
    -- quot1 is 1, quot2 1.2 [radau.rs:306-307]
    pick (lt r.numbers.theta thet && lt «1·0» qt && lt qt «1·2»)
    (r ▸ in_numbers (set_hhfac r.numbers.h) ▸ in_control (set_call_decomp false) ▸ in_control (set_call_jac false))
    (r ▸ fresh_of hnew)

-- a step that reaches the end point is aimed at it [radau.rs:763-766]
unfoldable pub renewed_of : Run → Float → Logged Step
renewed_of r hnew =
    pick (le «0·0» ((r.numbers.x ⊕ hnew ⊘ «1·0» ⊖ r.fixed.xend) ⊗ r.fixed.posneg))
    (logged (step.Main (r ▸ in_control (set_last true) ▸ fresh_of (r.fixed.xend ⊖ r.numbers.x)))
    (aimed r.numbers.x hnew ∷ []))
    (logged (step.Main (grown_of r hnew)) (not-aimed r.numbers.x hnew ∷ []))

-- an aimed attempt that was accepted ends the run [radau.rs:745-752]; the reject mark, set or not, is
-- cleared past it (radau.rs:760)
unfoldable pub arrived_of : Run → Logged Step
arrived_of r =
    pick r.control.last
    (quiet (step.Asked (ended_of Success (r ▸ in_numbers (set_h r.numbers.hnew)))))
    (renewed_of (r ▸ in_control (set_singular 0) ▸ in_numbers (set_hnew (hnew_of r)) ▸ in_control (set_reject false))
    (hnew_of r))
