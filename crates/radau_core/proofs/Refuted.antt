-- Wrong programs for what the crate offers, each shut out by one place or answer that a contract wants otherwise.
--     not-stands-still    `advanced` asks for something, and leaves the arrays as they stood
--     not-ends-at-once    `advanced` ends every run with Success
--     not-exchanged       `words_of` has accepted and rejected in each other's places
--     not-column-lost     `words_of` forgets which column of the Jacobian is open
--     not-other-step      `doubles_of` has the step of the last acceptance where the next one's belongs
--     not-absent-nan      `doubles_of` writes a NaN where there is no mark
--     not-one-alone       `run_at` takes a flag to be set by 1 alone
--     not-other-ended     `run_at` takes a number that is no stage's for the end
use Prim.Native.Nat.{ℕ}
use mathlib.Core.Path.{◌≡◌, refl, sym, ap, ◌∙◌}
use mathlib.Core.Bool.{Bool, true, false, true≢false}
use mathlib.Core.List.{List, [], ◌∷◌}
use native.Mathlib.Omega.{arith}
use lib.Dec.{eqb, ltb}
use lib.Ieee.{Float, nan, le, of_bits}
use lib.ListN.{get_or, set}
use Rattle.words.specs.Words.{◌!◌}
use Rattle.words.specs.Constants.{«0·0»}
use Rattle.words.specs.Loop.{loop, pick}
use Rattle.state.specs.declared.run.Run.{Run}
use Rattle.state.specs.declared.run.Stage.{Stage}
use Rattle.state.specs.declared.run.Stage.TheVariants as stage
use Rattle.state.specs.declared.run.Status.TheVariants as status
use Rattle.state.specs.declared.run.Tolerances.TheVariants.{Scalars}
use Rattle.state.specs.declared.talk.Place.TheVariants.{Nowhere}
use Rattle.state.specs.declared.talk.Reply.{Reply}
use Rattle.state.specs.declared.talk.Reply.TheVariants as reply
use Rattle.state.specs.declared.talk.Request.{Request}
use Rattle.state.specs.declared.talk.Request.TheVariants as request
use Rattle.state.specs.Settings.{defaults_of}
use Rattle.state.specs.Memory.{Memory, memory, amounts, newton, given, factors, differences}
use Rattle.state.specs.Memory.{amounts_fit, newton_fit, given_fit, factors_fit, differences_fit}
use Rattle.state.specs.Pivots.{stray, stray_at}
use Rattle.opening.specs.Rows.{verdict_of}
use Rattle.opening.specs.Admission.{admission_rows, asking_at, answers_report}
use Rattle.opening.specs.Opening.{first_counts, first_control, first_numbers, first_notes}
use Rattle.solve_blocks.specs.Advance.{AdvanceOutcome, advance_outcome, advance_by, replied_of, called_of}
use Rattle.solve_blocks.specs.Matrices.{passes_of, pass_at}
use Rattle.solve_blocks.specs.Needs.{Fit, StageFit, MemoryLong}
use Rattle.solve_blocks.specs.Setters.{in_counts, in_control, in_numbers, at_stage, counts, set_first, set_hold}
use Rattle.solve_blocks.proofs.AdmittedLaws.{admitted}
use Rattle.radau_core.specs.declared.step.Call.{Call}
use Rattle.state.specs.declared.talk.Call as the_call
use Rattle.radau_core.specs.Choices.{stage_of, status_of}
use Rattle.radau_core.specs.Places.{◌#◌, Sized, run_at, words_of, doubles_of}
use Rattle.radau_core.proofs.PackLaws.{run-held, admitted-at}
use Rattle.std.specs.Prelude.{None, Some, Option, Ok, Err}
use Rattle.state.specs.Talk.{Answer, passed_all, call}

-- ---- a run of one amount, and its memory

abbrev one : List Float
one = «0·0» ∷ []

abbrev sample_memory : Memory
sample_memory =
    memory (amounts one one one («0·0» ∷ «0·0» ∷ «0·0» ∷ «0·0» ∷ [])) (newton one one one one one one)
    (given one one one one) (factors one one one (0 ∷ []) (0 ∷ [])) (differences one one one)

abbrev sample_at : Stage → Run
sample_at s =
    record {
      settings = defaults_of;
      shape = record { n = 1; nind1 = 1; nind2 = 0; nind3 = 0 };
      fixed =
          record {
            tolerances = Scalars «0·0» «0·0»;
            newton_tol = «0·0»;
            xend = «0·0»;
            posneg = «0·0»;
            hmax = «0·0»;
            hmin = «0·0»;
          };
      counts = first_counts;
      control = first_control;
      numbers = first_numbers «0·0» «0·0»;
      stage = s;
      notes = first_notes;
    }

-- ---- an advance

-- what a program leaves of the two arrays and the memory, and its request
pub record Left : Type 0 where
  pub words : List ℕ
  pub doubles : List Float
  pub call : Call
  pub memory : Memory

abbrev pub Advances : Type 0
Advances = List ℕ → List Float → Reply → Memory → Left

-- the contract of `advanced`
abbrev pub Meets : Advances → Type 0
Meets f =
    (w : List ℕ) (d : List Float) (p : Reply) (m : Memory) → Sized w d
    × ((Fit 16 (w # 16) (run_at w d) × StageFit (w # 16) (run_at w d)) × MemoryLong (w # 16) m)
    → let l = f w d p m in
    advance_outcome (Ok (call (run_at l.words l.doubles) l.call.request l.call.place)) l.memory
    ≡ (advance_by passed_all (run_at w d) p m).core

passes : verdict_of (admission_rows (sample_at stage.FirstDerivative) reply.Filled sample_memory) ≡ passed_all
unfolding pick loop verdict_of amounts_fit newton_fit given_fit factors_fit differences_fit asking_at answers_report
    stray stray_at le of_bits
passes = refl

-- the first advance asks for a report
first-asks : (advance_by passed_all (sample_at stage.FirstDerivative) reply.Filled sample_memory).core.answer
    ≡ Ok (call (sample_at stage.FirstReport) (request.Report «0·0» «0·0» false) Nowhere)
unfolding advance_by replied_of called_of passes_of pass_at loop pick
first-asks = refl

abbrev answered : the_call.Call → Answer
answered c = Ok c

-- what a program that meets the contract does with it
module _ (f : Advances) (meets : Meets f) where
  abbrev left : Left
  left =
      f (words_of (sample_at stage.FirstDerivative)) (doubles_of (sample_at stage.FirstDerivative)) reply.Filled
      sample_memory

  asked : answered (call (run_at left.words left.doubles) left.call.request left.call.place)
      ≡ answered (call (sample_at stage.FirstReport) (request.Report «0·0» «0·0» false) Nowhere)
  asked =
      let r = sample_at stage.FirstDerivative in
      ap (λ (o : AdvanceOutcome). o.answer)
      (meets (words_of r) (doubles_of r) reply.Filled sample_memory
      (admitted-at r refl refl (admitted r reply.Filled sample_memory passes)))
      ∙ ap (λ (s : Run). (advance_by passed_all s reply.Filled sample_memory).core.answer) (run-held r)
      ∙ first-asks

-- whether the run of an answer waits for its first derivative, and whether the answer is the end
abbrev waits_at : Stage → Bool
waits_at stage.FirstDerivative = true
waits_at stage.FirstReport = false
waits_at stage.FirstDerivativeAgain = false
waits_at stage.Jacobian = false
waits_at (stage.Column c) = false
waits_at stage.Newton1 = false
waits_at stage.Newton2 = false
waits_at stage.Newton3 = false
waits_at stage.Refinement = false
waits_at stage.Accepted = false
waits_at stage.Report = false
waits_at stage.DerivativeAgain = false
waits_at (stage.Ended s) = false

abbrev waits : Answer → Bool
waits (Ok c) = waits_at c.run.stage
waits (Err e) = false

abbrev is_end : Request → Bool
is_end (request.Derivative x) = false
is_end (request.Jacobian x) = false
is_end (request.Report xold x offered) = false
is_end (request.Ended s) = true

abbrev ends : Answer → Bool
ends (Ok c) = is_end c.request
ends (Err e) = false

-- leaves the arrays as they stood
abbrev pub StandsStill : Advances → Type 0
StandsStill f =
    (w : List ℕ) (d : List Float) (p : Reply) (m : Memory) → run_at (f w d p m).words (f w d p m).doubles ≡ run_at w d

pub not-stands-still : (f : Advances) → StandsStill f → Meets f → ⊥
not-stands-still f still meets =
    let r = sample_at stage.FirstDerivative in
    let here = still (words_of r) (doubles_of r) reply.Filled sample_memory ∙ run-held r in
    true≢false (sym (ap (λ (s : Run). waits_at s.stage) here) ∙ ap waits (asked f meets))

-- ends every run with Success
abbrev pub EndsAtOnce : Advances → Type 0
EndsAtOnce f =
    (w : List ℕ) (d : List Float) (p : Reply) (m : Memory) → (f w d p m).call.request ≡ request.Ended status.Success

pub not-ends-at-once : (f : Advances) → EndsAtOnce f → Meets f → ⊥
not-ends-at-once f always meets =
    let r = sample_at stage.FirstDerivative in
    let here = always (words_of r) (doubles_of r) reply.Filled sample_memory in
    true≢false (sym (ap is_end here) ∙ ap ends (asked f meets))

-- ---- the whole numbers of a run

abbrev pub MeetsWords : (Run → List ℕ) → Type 0
MeetsWords f = (r : Run) → f r ≡ words_of r

abbrev pub exchanged : Run → List ℕ
exchanged r =
    let c = r.counts in
    words_of (in_counts (λ k. counts c.ode c.jac c.lu c.total c.rejected c.accepted) r)

pub not-exchanged : MeetsWords exchanged → ⊥
not-exchanged meets =
    let r = in_counts (λ k. counts 0 0 0 0 1 0) (sample_at stage.Report) in
    let e : ◌≡◌ {A = ℕ} 0 1 = ap (λ (l : List ℕ). get_or l 6 0) (meets r) in
    omega arith

abbrev pub column_lost : Run → List ℕ
column_lost r = set (words_of r) 1 0

pub not-column-lost : MeetsWords column_lost → ⊥
not-column-lost meets =
    let e : ◌≡◌ {A = ℕ} 0 3 = ap (λ (l : List ℕ). get_or l 1 0) (meets (sample_at (stage.Column 3))) in
    omega arith

-- ---- the doubles of a run

abbrev pub MeetsDoubles : (Run → List Float) → Type 0
MeetsDoubles f = (r : Run) → f r ≡ doubles_of r

-- whether a double is 0 or above; a NaN is not
abbrev is_above : Float → Bool
is_above x = le «0·0» x

abbrev pub other_step : Run → List Float
other_step r = set (doubles_of r) 3 r.numbers.hold

pub not-other-step : MeetsDoubles other_step → ⊥
unfolding le of_bits
not-other-step meets =
    let r = in_numbers (set_hold nan) (sample_at stage.Report) in
    true≢false (sym (ap (λ (l : List Float). is_above (l ! 3)) (meets r)))

abbrev or_nan : Option Float → Float
or_nan None = nan
or_nan (Some x) = x

abbrev pub absent_nan : Run → List Float
absent_nan r = set (doubles_of r) 13 (or_nan r.numbers.xout)

pub not-absent-nan : MeetsDoubles absent_nan → ⊥
unfolding le of_bits
not-absent-nan meets =
    true≢false (sym (ap (λ (l : List Float). is_above (l ! 13)) (meets (sample_at stage.Report))))

-- ---- the run that two arrays hold

abbrev pub MeetsRun : (List ℕ → List Float → Run) → Type 0
MeetsRun f = (w : List ℕ) (d : List Float) → Sized w d → f w d ≡ run_at w d

abbrev pub one_alone : List ℕ → List Float → Run
one_alone w d = in_control (set_first (eqb (w # 8) 1)) (run_at w d)

pub not-one-alone : MeetsRun one_alone → ⊥
not-one-alone meets =
    let r = sample_at stage.Report in
    let e = meets (set (words_of r) 8 2) (doubles_of r) (record { words = refl; doubles = refl }) in
    true≢false (sym (ap (λ (s : Run). s.control.first) e))

abbrev pub other_ended : List ℕ → List Float → Run
other_ended w d = at_stage (pick (ltb 12 (w # 0)) (stage.Ended status.Success) (run_at w d).stage) (run_at w d)

pub not-other-ended : MeetsRun other_ended → ⊥
unfolding stage_of status_of pick
not-other-ended meets =
    let r = sample_at stage.Report in
    let e = meets (set (words_of r) 0 13) (doubles_of r) (record { words = refl; doubles = refl }) in
    true≢false (sym (ap (λ (s : Run). waits_at s.stage) e))
