-- An advance: refused by the first row that holds, and then nothing is written; else `solve` goes on from the call of
-- the host that the reply answers, up to its next one.
use Rattle.words.specs.Words.{◌⊕◌, ◌⊗◌}
use Rattle.scalar.specs.Coefficients.{C2}
use Rattle.state.specs.declared.run.Run.{Run}
use Rattle.state.specs.declared.run.Stage.{Stage}
use Rattle.state.specs.declared.run.Stage.TheVariants as stage
use Rattle.state.specs.declared.talk.Place.TheVariants.{ContToZ2, ContToZ3}
use Rattle.state.specs.declared.talk.Reply.{Reply}
use Rattle.state.specs.Memory.{Memory, memory, amounts}
use Rattle.state.specs.MemorySetters.{set_scal, set_cont, set_y_cont, set_f12}
use Rattle.state.specs.MemorySetters.{set_newton, set_factors, set_differences, set_column}
use Rattle.opening.specs.Rows.{verdict_of}
use Rattle.opening.specs.Admission.{admission_rows}
use Rattle.state.specs.declared.talk.Call.{Call}
use Rattle.solve_blocks.specs.declared.step.Heard.{Heard}
use Rattle.solve_blocks.specs.declared.step.Heard.TheVariants as heard
use Rattle.solve_blocks.specs.declared.step.Round.{Round}
use Rattle.solve_blocks.specs.declared.step.Round.TheVariants as round
use Rattle.solve_blocks.specs.declared.step.Step.{Step}
use Rattle.solve_blocks.specs.declared.step.Step.TheVariants as step
use Rattle.solve_blocks.specs.Events.{Logged, logged, quiet, and_then}
use Rattle.solve_blocks.specs.Scale.{scaled_of}
use Rattle.solve_blocks.specs.Matrices.{ended_of, passes_of}
use Rattle.solve_blocks.specs.Attempt.{ask_stage_of, attempt_of}
use Rattle.solve_blocks.specs.Newton.{RoundDone, round_of, again_of}
use Rattle.solve_blocks.specs.Judge.{estimate_of, refined_of}
use Rattle.solve_blocks.specs.Report.{ask_first_report, ask_report, reported_of, arrived_of}
use Rattle.solve_blocks.specs.Jacobian.{ask_jacobian_of, column_of}
use Rattle.std.specs.Prelude.{Ok, Err}
use Rattle.state.specs.Talk.{call, Verdict, Answer, refused}

-- where `solve` stands, and the memory there
pub record Stepped : Type 0 where
  pub step : Step
  pub memory : Memory

abbrev pub stepped : Step → Memory → Stepped
stepped s m = record { step = s; memory = m }

-- ---- from a reply to a label

-- the error scale (radau.rs:363-366, 714-717)
abbrev pub rescaled : Run → Memory → Memory
rescaled r m =
    set_scal
    (scaled_of r.shape.n r.fixed.tolerances m.given.rtol m.given.atol m.amounts.y m.amounts.scal)
    m

-- past the first report [radau.rs:368-369]
unfoldable pub started_of : Heard → Memory → Stepped
started_of (heard.Asked c) m = stepped (step.Asked c) m
started_of (heard.Reported r) m = stepped (step.Main r) (rescaled r m)

-- past a later one
unfoldable pub returned_of : Heard → Logged Step
returned_of (heard.Asked c) = quiet (step.Asked c)
returned_of (heard.Reported r) = arrived_of r

abbrev pub in_memory : Memory → Logged Step → Logged Stepped
in_memory m l = logged (stepped l.core m) l.log

-- past a round of the Newton iteration: another, the estimate of the error, or the next pass
unfoldable pub conclude_of : Round → Memory → Logged Stepped
conclude_of (round.Newton r) m =
    let a = again_of r m.amounts.y m.newton.z1 m.amounts.cont in
    logged (stepped a.core.step (set_cont a.core.cont m)) a.log
conclude_of (round.Estimate r) m =
    let e = estimate_of r m.given.mass m.factors.e1 m.factors.ip1 m.amounts.f0 m.amounts.scal
    m.amounts.y m.amounts.cont m.newton in
    logged (stepped e.core.step (set_f12 e.core.f1 e.core.f2 (set_y_cont e.core.y e.core.cont m)))
    e.log
conclude_of (round.Over s) m = quiet (stepped s m)

-- what a reply of the kind asked for leads to, stage by stage; 14 stands before an ended run
unfoldable pub replied_of : Stage → Reply → Run → Memory → Logged Stepped
replied_of stage.FirstDerivative p r m = quiet (stepped (step.Asked (ask_first_report r)) m)
replied_of stage.FirstReport p r m = quiet (started_of (reported_of stage.FirstDerivativeAgain p r) m)
replied_of stage.FirstDerivativeAgain p r m = quiet (started_of (heard.Reported r) m)
replied_of stage.Jacobian p r m = quiet (stepped (step.Matrices r) m)
replied_of (stage.Column c) p r m =
    let d = column_of c r m.amounts.y m.differences.y_perturbed m.differences.f_perturbed
    m.differences.f_origin m.given.jac in
    quiet (stepped d.step (set_column d.y_perturbed d.jac m))
-- [radau.rs:506]
replied_of stage.Newton1 p r m =
    let a = ask_stage_of r stage.Newton2 (r.numbers.x ⊕ C2 ⊗ r.numbers.h) ContToZ2
    m.amounts.y m.newton.z2 m.amounts.cont in
    quiet (stepped (step.Asked a.call) (set_cont a.cont m))
-- [radau.rs:510]
replied_of stage.Newton2 p r m =
    let a = ask_stage_of r stage.Newton3 r.numbers.xph ContToZ3 m.amounts.y m.newton.z3 m.amounts.cont in
    quiet (stepped (step.Asked a.call) (set_cont a.cont m))
replied_of stage.Newton3 p r m =
    and_then (round_of r m.given.mass m.amounts.scal m.factors m.newton)
    (λ (v : RoundDone). conclude_of v.round (set_newton v.newton m))
replied_of stage.Refinement p r m =
    let e =
    refined_of r m.factors.e1 m.factors.ip1 m.amounts.scal m.amounts.y m.amounts.cont m.newton in
    logged (stepped e.core.step (set_y_cont e.core.y e.core.cont m)) e.log
replied_of stage.Accepted p r m = quiet (stepped (step.Asked (ask_report r)) (rescaled r m))
replied_of stage.Report p r m = in_memory m (returned_of (reported_of stage.DerivativeAgain p r))
replied_of stage.DerivativeAgain p r m = in_memory m (arrived_of r)
replied_of (stage.Ended s) p r m = quiet (stepped (step.Asked (ended_of s r)) m)

-- every reply of an admitted advance is received here, before anything of it is used
abbrev pub received_of : Run → Reply → Memory → Logged Stepped
received_of r p m = replied_of r.stage p r m

-- ---- from a label to the next request

-- the matrices (radau.rs:376-419)
abbrev pub passed_of : Stepped → Logged Stepped
passed_of t =
    let l = passes_of t.step t.memory.given.mass t.memory.given.jac t.memory.factors in
    logged (stepped l.core.step (set_factors l.core.factors t.memory)) l.log

-- what is asked of the host, and the memory then
pub record Called : Type 0 where
  pub call : Call
  pub memory : Memory

abbrev pub called : Call → Memory → Called
called c m = record { call = c; memory = m }

-- a Jacobian that is wanted is asked for [radau.rs:371-374]
abbrev pub jacobian_of : Run → Memory → Called
jacobian_of r m =
    let a = ask_jacobian_of r m.amounts.y m.differences in
    called a.call (set_differences a.differences m)

-- past the matrices; at `Matrices` no six passes leave it
unfoldable pub called_of : Step → Memory → Logged Called
called_of (step.Asked c) m = quiet (called c m)
called_of (step.Main r) m = quiet (jacobian_of r m)
called_of (step.Matrices r) m = quiet (jacobian_of r m)
called_of (step.Attempt r) m =
    let b = attempt_of r m.amounts.y m.amounts.scal m.amounts.cont m.newton in
    logged (called b.core.call (memory
    (amounts m.amounts.y m.amounts.f0 b.core.scal b.core.cont)
    b.core.newton
    m.given
    m.factors
    m.differences))
    b.log

-- ---- the advance

pub record AdvanceOutcome : Type 0 where
  pub answer : Answer
  pub memory : Memory

abbrev pub advance_outcome : Answer → Memory → AdvanceOutcome
advance_outcome a m = record { answer = a; memory = m }

abbrev pub asked : Called → AdvanceOutcome
asked d = advance_outcome (Ok (call d.call.run d.call.request d.call.place)) d.memory

unfoldable pub advance_by : Verdict → Run → Reply → Memory → Logged AdvanceOutcome
advance_by (Err x) r p m = quiet (advance_outcome (Err (refused r x)) m)
advance_by (Ok tt) r p m =
    let l = and_then (and_then (received_of r p m) passed_of) (λ (t : Stepped). called_of t.step t.memory) in
    logged (asked l.core) l.log

abbrev pub advance_of : Run → Reply → Memory → Logged AdvanceOutcome
advance_of r p m = advance_by (verdict_of (admission_rows r p m)) r p m
