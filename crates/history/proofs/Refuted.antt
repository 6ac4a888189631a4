-- Wrong solvers, each shut out by the definition of an advance, and so by its contract, which crate `calls` says (01,
-- 'How tight the contracts are'): one refuses everything, one always answers alike, one does nothing (it leaves the run
-- as it is, or writes nothing), and one is right at its first advance and then pretends, ending with Success.
use Prim.Native.Nat.{ℕ}
use mathlib.Core.Path.{◌≡◌, refl, sym, ap, ◌∙◌}
use mathlib.Core.Bool.{Bool, true, false, true≢false}
use mathlib.Core.List.{List, [], ◌∷◌}
use lib.Ieee.{Float, le, add, mul, of_bits}
use Rattle.words.specs.Words.{◌!◌}
use Rattle.words.specs.Constants.{«0·0», «1·0»}
use Rattle.words.specs.Loop.{loop, pick}
use Rattle.state.specs.declared.run.Run.{Run}
use Rattle.state.specs.declared.run.Stage.{Stage}
use Rattle.state.specs.declared.run.Stage.TheVariants as stage
use Rattle.state.specs.declared.run.Status.TheVariants as status
use Rattle.state.specs.declared.run.Tolerances.TheVariants.{Scalars}
use Rattle.state.specs.declared.talk.Place.TheVariants.{Nowhere}
use Rattle.state.specs.declared.talk.Refusal.TheVariants.{Unfit}
use Rattle.state.specs.declared.talk.Reply.{Reply}
use Rattle.state.specs.declared.talk.Reply.TheVariants as reply
use Rattle.state.specs.declared.talk.Request.{Request}
use Rattle.state.specs.declared.talk.Request.TheVariants as request
use Rattle.state.specs.Settings.{defaults_of}
use Rattle.state.specs.Memory.{Memory, memory, amounts, newton, given, factors, differences}
use Rattle.state.specs.Memory.{amounts_fit, newton_fit, given_fit, factors_fit, differences_fit}
use Rattle.state.specs.Pivots.{stray, stray_at}
use Rattle.opening.specs.Rows.{verdict_of}
use Rattle.opening.specs.Admission.{asking_at, answers_report}
use Rattle.opening.specs.Opening.{first_counts, first_control, first_numbers, first_notes}
use Rattle.solve_blocks.specs.Advance.{AdvanceOutcome, advance_outcome, advance_of}
use Rattle.solve_blocks.specs.Advance.{advance_by, started_of, replied_of, called_of}
use Rattle.solve_blocks.specs.Attempt.{stage_sum_at, ask_stage_of}
use Rattle.solve_blocks.specs.Matrices.{passes_of, pass_at}
use Rattle.solve_blocks.specs.Report.{reported_of}
use Rattle.std.specs.Prelude.{Ok, Err}
use Rattle.state.specs.Talk.{Answer, call, refused}

-- what a solver is, for one advance, and what the definition asks of it
abbrev pub Solver : Type 0
Solver = Run → Reply → Memory → AdvanceOutcome

abbrev pub Meets : Solver → Type 0
Meets s = (r : Run) (p : Reply) (m : Memory) → s r p m ≡ (advance_of r p m).core

-- ---- a run of one amount, and its memory

abbrev pub one : List Float
one = «0·0» ∷ []

abbrev pub sample_memory : Memory
sample_memory =
    memory (amounts one one one («0·0» ∷ «0·0» ∷ «0·0» ∷ «0·0» ∷ [])) (newton one one one one one one)
    (given one one one one) (factors one one one (0 ∷ []) (0 ∷ [])) (differences one one one)

abbrev pub sample_at : Stage → Run
sample_at s =
    record {
      settings = defaults_of;
      shape = record { n = 1; nind1 = 1; nind2 = 0; nind3 = 0 };
      fixed =
          record {
            tolerances = Scalars «0·0» «0·0»;
            newton_tol = «0·0»;
            xend = «0·0»;
            posneg = «0·0»;
            hmax = «0·0»;
            hmin = «0·0»;
          };
      counts = first_counts;
      control = first_control;
      numbers = first_numbers «0·0» «0·0»;
      stage = s;
      notes = first_notes;
    }

-- the first advance is admitted, and asks for a report
first-asks : (advance_of (sample_at stage.FirstDerivative) reply.Filled sample_memory).core.answer
    ≡ Ok (call (sample_at stage.FirstReport) (request.Report «0·0» «0·0» false) Nowhere)
unfolding advance_by replied_of called_of passes_of pass_at loop pick verdict_of amounts_fit newton_fit given_fit
    factors_fit differences_fit asking_at answers_report stray stray_at le of_bits
first-asks = refl

-- an interrupt at that report is answered by the end, with its status
interrupt-ends : (advance_of (sample_at stage.FirstReport) reply.Interrupt sample_memory).core.answer
    ≡ Ok (call (sample_at (stage.Ended status.UserInterrupt)) (request.Ended status.UserInterrupt) Nowhere)
unfolding advance_by replied_of called_of passes_of pass_at loop pick verdict_of amounts_fit newton_fit given_fit
    factors_fit differences_fit asking_at answers_report stray stray_at le of_bits started_of reported_of
interrupt-ends = refl

-- one amount of 1: its first stage's derivative is answered with the second stage's amount in cont
abbrev held_memory : Memory
held_memory =
    memory (amounts («1·0» ∷ []) one one sample_memory.amounts.cont)
    sample_memory.newton sample_memory.given sample_memory.factors sample_memory.differences

abbrev is_stored : Memory → Bool
is_stored m = le «1·0» (m.amounts.cont ! 0)

second-writes : is_stored (advance_of (sample_at stage.Newton1) reply.Filled held_memory).core.memory ≡ true
unfolding advance_by replied_of called_of passes_of pass_at ask_stage_of stage_sum_at loop pick verdict_of amounts_fit
    newton_fit given_fit factors_fit differences_fit asking_at answers_report stray stray_at le add mul of_bits
second-writes = refl

not-held : is_stored held_memory ≡ false
unfolding le of_bits
not-held = refl

-- ---- the wrong solvers

-- whether an answer is a refusal, and whether it is the end with an interrupt
abbrev refuses : Answer → Bool
refuses (Ok c) = false
refuses (Err e) = true

abbrev interrupts : Request → Bool
interrupts (request.Derivative x) = false
interrupts (request.Jacobian x) = false
interrupts (request.Report xold x offered) = false
interrupts (request.Ended status.Success) = false
interrupts (request.Ended status.UserInterrupt) = true
interrupts (request.Ended status.NeedLargerNMax) = false
interrupts (request.Ended status.StepSizeTooSmall) = false
interrupts (request.Ended status.SingularMatrix) = false

abbrev interrupted : Answer → Bool
interrupted (Ok c) = interrupts c.request
interrupted (Err e) = false

-- refuses everything
abbrev pub refuses_all : Solver
refuses_all r p m = advance_outcome (Err (refused r Unfit)) m

pub not-refuses-all : Meets refuses_all → ⊥
not-refuses-all meets =
    true≢false (ap (λ (o : AdvanceOutcome). refuses o.answer)
    (meets (sample_at stage.FirstDerivative) reply.Filled sample_memory)
    ∙ ap refuses first-asks)

-- gives one answer whatever it is asked
abbrev pub says_always : AdvanceOutcome → Solver
says_always o r p m = o

pub not-always : (o : AdvanceOutcome) → Meets (says_always o) → ⊥
not-always o meets =
    let first = ap (λ (x : AdvanceOutcome). interrupted x.answer)
    (meets (sample_at stage.FirstDerivative) reply.Filled sample_memory)
    ∙ ap interrupted first-asks in
    let later = ap (λ (x : AdvanceOutcome). interrupted x.answer)
    (meets (sample_at stage.FirstReport) reply.Interrupt sample_memory)
    ∙ ap interrupted interrupt-ends in
    true≢false (sym later ∙ first)

-- does nothing: the run comes back as it went in, whatever is asked along with it
abbrev run_in : Answer → Run
run_in (Ok c) = c.run
run_in (Err e) = e.run

abbrev pub DoesNothing : Solver → Type 0
DoesNothing s = (r : Run) (p : Reply) (m : Memory) → run_in (s r p m).answer ≡ r

-- whether the run waits for its first derivative
abbrev waits_first : Stage → Bool
waits_first stage.FirstDerivative = true
waits_first stage.FirstReport = false
waits_first stage.FirstDerivativeAgain = false
waits_first stage.Jacobian = false
waits_first (stage.Column c) = false
waits_first stage.Newton1 = false
waits_first stage.Newton2 = false
waits_first stage.Newton3 = false
waits_first stage.Refinement = false
waits_first stage.Accepted = false
waits_first stage.Report = false
waits_first stage.DerivativeAgain = false
waits_first (stage.Ended s) = false

pub not-does-nothing : (s : Solver) → DoesNothing s → Meets s → ⊥
not-does-nothing s nothing meets =
    let here = sample_at stage.FirstDerivative in
    let stays = nothing here reply.Filled sample_memory in
    let moves = ap (λ (o : AdvanceOutcome). run_in o.answer) (meets here reply.Filled sample_memory)
    ∙ ap run_in first-asks in
    true≢false (ap (λ (r : Run). waits_first r.stage) (sym stays ∙ moves))

-- moves on from stage to stage and never writes
abbrev pub WritesNothing : Solver → Type 0
WritesNothing s = (r : Run) (p : Reply) (m : Memory) → (s r p m).memory ≡ m

pub not-writes-nothing : (s : Solver) → WritesNothing s → Meets s → ⊥
not-writes-nothing s nothing meets =
    let stays = nothing (sample_at stage.Newton1) reply.Filled held_memory in
    let wrote = ap (λ (o : AdvanceOutcome). o.memory) (meets (sample_at stage.Newton1) reply.Filled held_memory) in
    true≢false (sym second-writes ∙ ap is_stored (sym wrote ∙ stays) ∙ not-held)

-- is right at the first advance, and later ends with Success
unfoldable pub right_at : Stage → Solver
right_at stage.FirstDerivative r p m = (advance_of r p m).core
right_at stage.FirstReport r p m = advance_outcome (Ok (call r (request.Ended status.Success) Nowhere)) m
right_at stage.FirstDerivativeAgain r p m = advance_outcome (Ok (call r (request.Ended status.Success) Nowhere)) m
right_at stage.Jacobian r p m = advance_outcome (Ok (call r (request.Ended status.Success) Nowhere)) m
right_at (stage.Column c) r p m = advance_outcome (Ok (call r (request.Ended status.Success) Nowhere)) m
right_at stage.Newton1 r p m = advance_outcome (Ok (call r (request.Ended status.Success) Nowhere)) m
right_at stage.Newton2 r p m = advance_outcome (Ok (call r (request.Ended status.Success) Nowhere)) m
right_at stage.Newton3 r p m = advance_outcome (Ok (call r (request.Ended status.Success) Nowhere)) m
right_at stage.Refinement r p m = advance_outcome (Ok (call r (request.Ended status.Success) Nowhere)) m
right_at stage.Accepted r p m = advance_outcome (Ok (call r (request.Ended status.Success) Nowhere)) m
right_at stage.Report r p m = advance_outcome (Ok (call r (request.Ended status.Success) Nowhere)) m
right_at stage.DerivativeAgain r p m = advance_outcome (Ok (call r (request.Ended status.Success) Nowhere)) m
right_at (stage.Ended s) r p m = advance_outcome (Ok (call r (request.Ended status.Success) Nowhere)) m

abbrev pub pretends : Solver
pretends r p m = right_at r.stage r p m

pub not-pretends : Meets pretends → ⊥
unfolding right_at
not-pretends meets =
    true≢false (sym (ap (λ (o : AdvanceOutcome). interrupted o.answer)
    (meets (sample_at stage.FirstReport) reply.Interrupt sample_memory)
    ∙ ap interrupted interrupt-ends))
