-- What an advance can do: the ways from one position to the next, each a rule with its event. A rule has as
-- premises the tests that led there, spelled out as the Rust has them, and takes every other number as it comes; so
-- what is closed under the rules holds of every advance (`Closed`; EveryRule.antt shows it), and a rule that
-- changes changes one line of each proof.
use Prim.Native.Nat.{ℕ, suc, ◌+◌, ◌≤◌, ◌<◌}
use mathlib.Core.Path.{◌≡◌}
use mathlib.Core.Bool.{Bool, true, false}
use mathlib.Core.List.{List, [], ◌∷◌, ◌++◌}
use lib.Ieee.{Float, le, lt}
use Rattle.words.specs.Words.{◌⊕◌, ◌⊖◌, ◌⊗◌, ◌⊘◌}
use Rattle.words.specs.Constants.{«0·0», «1·0», «0·99», «0·1»}
use Rattle.scalar.specs.Order.{abs_of}
use Rattle.matrix.specs.Answers.{nowhere, column}
use Rattle.state.specs.declared.settings.Rule.TheVariants as rule
use Rattle.state.specs.declared.settings.Source.TheVariants as source
use Rattle.state.specs.declared.run.Run.{Run}
use Rattle.state.specs.declared.run.Stage.{Stage}
use Rattle.state.specs.declared.run.Stage.TheVariants as stage
use Rattle.state.specs.declared.run.Status.TheVariants as status
use Rattle.state.specs.declared.talk.Place.TheVariants as place
use Rattle.state.specs.declared.talk.Reply.{Reply}
use Rattle.state.specs.declared.talk.Reply.TheVariants as reply
use Rattle.state.specs.declared.talk.Request.TheVariants as request
use Rattle.state.specs.Memory.{Factors}
use Rattle.state.specs.declared.talk.Call.{Call}
use Rattle.solve_blocks.specs.Setters.{◌▸◌, in_counts, in_control, in_numbers, in_notes, at_stage}
use Rattle.solve_blocks.specs.Setters.{one_lu, one_total, one_rejected, set_last, set_latest}
use Rattle.solve_blocks.specs.Setters.{set_reject, set_call_jac, set_call_decomp, set_singular, set_newt}
use Rattle.solve_blocks.specs.Setters.{set_xph, set_h, set_hnew, set_hhfac, set_h_acc}
use Rattle.solve_blocks.specs.Setters.{set_err_acc, set_faccon, set_theta, set_dynold, set_thqold, set_xout}
use Rattle.solve_blocks.specs.Events.{Event, real-singular, complex-singular}
use Rattle.solve_blocks.specs.Events.{factored, over-limit, too_small, begun}
use Rattle.solve_blocks.specs.Events.{rounds-used, diverged, slow, error-solve}
use Rattle.solve_blocks.specs.Events.{failed, accepted, aimed, not-aimed}
use Rattle.solve_blocks.specs.Matrices.{ask_derivative, ended_of, missed_of}
use Rattle.state.specs.Talk.{call}
use Rattle.solve_blocks.specs.Jacobian.{asked_here}
use Rattle.solve_blocks.specs.Judge.{accepted_point, ask_accepted, ask_refinement}
use Rattle.solve_blocks.specs.Report.{ask_modified, is_interrupt}
use Rattle.solve_blocks.specs.Needs.{FactorsLong}
use Rattle.solve_blocks.proofs.Tries.{e1_stop, e2_stop}
use Rattle.std.specs.Prelude.{Some, Option}
use Rattle.state.specs.declared.run.Singular.TheVariants.{Real, Complex}

-- where an advance stands
pub data Position : Type 0 where
  -- at the reply to the request of a stage
  replied : Stage → Run → Position
  -- at the reply to a report; the stage is that of the derivative that a modified point asks for
  reporting : Stage → Run → Position
  -- past a report that is not the first
  arrived : Run → Position
  -- at the top of 'main, past the Jacobian, past the matrices
  main matrices attempt : Run → Position
  -- a failure is to be counted
  failing : Run → Position
  -- at the top of 'newton, past 'newton, and where the error is known
  newton estimate judging : Run → Position
  -- at the next request
  asked : Call → Position

-- ---- the runs that the rules lead to

-- a round more is done; the numbers of the iteration are any
abbrev pub iterated : Float → Float → Float → Float → Run → Run
iterated theta thqold faccon dynold r =
    r ▸ in_control (set_newt (r.control.newt_iter + 1)) ▸ in_numbers (set_theta theta) ▸ in_numbers (set_thqold thqold)
    ▸ in_numbers (set_faccon faccon) ▸ in_numbers (set_dynold dynold)

-- the slow verdict: a shorter step, and counted as rejected
abbrev pub slowed : Float → Float → Run → Run
slowed h hhfac r = r ▸ in_numbers (set_hhfac hhfac) ▸ in_numbers (set_h h) ▸ in_counts one_rejected

-- the attempt is begun
abbrev pub begun_of : Float → Float → Run → Run
begun_of faccon theta r =
    r ▸ in_counts one_total ▸ in_numbers (set_xph (r.numbers.x ⊕ r.numbers.h)) ▸ in_numbers (set_faccon faccon)
    ▸ in_numbers (set_theta theta) ▸ in_control (set_newt 0)

-- a new step for the next attempt
abbrev pub step_of : Float → Float → Run → Run
step_of h hhfac r = r ▸ in_numbers (set_h h) ▸ in_numbers (set_hhfac hhfac)

-- the attempt is accepted
abbrev pub accepted_run : Float → Float → Float → Run → Run
accepted_run hnew hacc erracc r =
    r ▸ in_numbers (set_hnew hnew) ▸ in_numbers (set_h_acc hacc) ▸ in_numbers (set_err_acc erracc) ▸ accepted_point

-- past a report: failures are forgotten, and so is the reject mark; which matrices are wanted is any
abbrev pub cleared : Float → Float → Float → Bool → Bool → Run → Run
cleared hnew h hhfac decomp jac r =
    r ▸ in_control (set_singular 0) ▸ in_numbers (set_hnew hnew) ▸ in_control (set_reject false) ▸ step_of h hhfac
    ▸ in_control (set_call_decomp decomp) ▸ in_control (set_call_jac jac)

-- whether a reply moves the point
unfoldable pub is_modified : Reply → Bool
is_modified reply.Filled = false
is_modified reply.Continue = false
is_modified reply.Interrupt = false
is_modified (reply.Modified x) = true
is_modified (reply.Mark x) = false

-- ---- the tests, as radau.rs has them

-- a step of hnew from x reaches the end point (radau.rs:764), spelled out: a rule leans on no definition's test
abbrev pub Reaches : Run → Float → Bool → Type 0
Reaches r hnew b = le «0·0» ((r.numbers.x ⊕ hnew ⊘ «1·0» ⊖ r.fixed.xend) ⊗ r.fixed.posneg) ≡ b

-- the step is too small (radau.rs:430)
abbrev pub TooSmall : Run → Bool → Type 0
TooSmall r b = le («0·1» ⊗ abs_of r.numbers.h) (abs_of r.numbers.x ⊗ r.settings.uround) ≡ b

-- ---- the rules, for the reply p, and for the mass and the Jacobian of which the passes build their matrices

pub record Closed (p : Reply) (mass jac : List Float) (P : List Event → Position → Type 0) : Type 0 where
  -- the start, and reports
  pub first-filled : {es : List Event} {r : Run} → P es (replied stage.FirstDerivative r)
      → P es (asked
      (call (r ▸ at_stage stage.FirstReport) (request.Report r.numbers.xold r.numbers.x false) place.Nowhere))
  pub first-report : {es : List Event} {r : Run} → P es (replied stage.FirstReport r)
      → P es (reporting stage.FirstDerivativeAgain r)
  pub later-report : {es : List Event} {r : Run} → P es (replied stage.Report r)
      → P es (reporting stage.DerivativeAgain r)
  pub interrupted : {es : List Event} {s : Stage} {r : Run} → is_interrupt p ≡ true → P es (reporting s r)
      → P es (asked (ended_of status.UserInterrupt r))
  pub modified : {es : List Event} {s : Stage} {r : Run} (x : Float) → p ≡ reply.Modified x → P es (reporting s r)
      → P es (asked (ask_modified s x r))
  pub first-told : {es : List Event} {r : Run} (mark : Option Float) → is_interrupt p ≡ false → is_modified p ≡ false
      → P es (reporting stage.FirstDerivativeAgain r) → P es (main (r ▸ in_numbers (set_xout mark)))
  pub later-told : {es : List Event} {r : Run} (mark : Option Float) → is_interrupt p ≡ false → is_modified p ≡ false
      → P es (reporting stage.DerivativeAgain r) → P es (arrived (r ▸ in_numbers (set_xout mark)))
  pub first-again : {es : List Event} {r : Run} → P es (replied stage.FirstDerivativeAgain r) → P es (main r)
  pub later-again : {es : List Event} {r : Run} → P es (replied stage.DerivativeAgain r) → P es (arrived r)
  -- past a report: the end, an aim, or neither
  pub success : {es : List Event} {r : Run} → r.control.last ≡ true → P es (arrived r)
      → P es (asked (ended_of status.Success (r ▸ in_numbers (set_h r.numbers.hnew))))
  pub aims : {es : List Event} {r : Run} (hnew hhfac : Float) (jac : Bool) → r.control.last ≡ false
      → Reaches r hnew true → P es (arrived r)
      → P (es ++ (aimed r.numbers.x hnew ∷ []))
      (main (cleared hnew (r.fixed.xend ⊖ r.numbers.x) hhfac true jac r ▸ in_control (set_last true)))
  pub onward : {es : List Event} {r : Run} (hnew h hhfac : Float) (decomp jac : Bool) → r.control.last ≡ false
      → Reaches r hnew false → P es (arrived r)
      → P (es ++ (not-aimed r.numbers.x hnew ∷ [])) (main (cleared hnew h hhfac decomp jac r))
  -- the Jacobian
  pub host-asked : {es : List Event} {r : Run} → r.control.call_jac ≡ true
      → r.settings.source ≡ source.Host → P es (main r)
      → P es
      (asked (call (r ▸ asked_here ▸ at_stage stage.Jacobian) (request.Jacobian r.numbers.x) place.Nowhere))
  pub origin-asked : {es : List Event} {r : Run} → r.control.call_jac ≡ true
      → r.settings.source ≡ source.Differences → P es (main r)
      → P es (asked
      (call (r ▸ asked_here ▸ at_stage (stage.Column 0)) (request.Derivative r.numbers.x) place.YToFOrigin))
  pub jacobian-kept : {es : List Event} {r : Run} → r.control.call_jac ≡ false → P es (main r) → P es (matrices r)
  pub host-filled : {es : List Event} {r : Run} → P es (replied stage.Jacobian r) → P es (matrices r)
  pub origin-filled : {es : List Event} {r : Run} → P es (replied (stage.Column 0) r)
      → P es
      (asked (call (r ▸ at_stage (stage.Column 1)) (request.Derivative r.numbers.x) place.YPerturbedToFPerturbed))
  pub column-filled : {es : List Event} {r : Run} (c : ℕ) → c + 1 < r.shape.n
      → P es (replied (stage.Column (suc c)) r)
      → P es (asked
      (call (r ▸ at_stage (stage.Column (c + 1 + 1))) (request.Derivative r.numbers.x) place.YPerturbedToFPerturbed))
  pub columns-filled : {es : List Event} {r : Run} (c : ℕ) → r.shape.n ≤ c + 1
      → P es (replied (stage.Column (suc c)) r) → P es (matrices r)
  -- the matrices
  pub matrices-kept : {es : List Event} {r : Run}
      → r.control.call_decomp ≡ false → P es (matrices r) → P es (attempt r)
  pub real-stopped : {es : List Event} {r : Run} (f : Factors) (k : ℕ) → FactorsLong r.shape.n f
      → e1_stop r mass jac f ≡ column k → P es (matrices r)
      → P (es ++ (real-singular r.numbers.h k ∷ []))
      (failing (r ▸ in_counts one_lu ▸ in_notes (set_latest (Some (Real k)))))
  pub complex-stopped : {es : List Event} {r : Run} (f : Factors) (k : ℕ) → FactorsLong r.shape.n f
      → e1_stop r mass jac f ≡ nowhere → e2_stop r mass jac f ≡ column k → P es (matrices r)
      → P (es ++ (complex-singular r.numbers.h k ∷ []))
      (failing (r ▸ in_counts one_lu ▸ in_counts one_lu ▸ in_notes (set_latest (Some (Complex k)))))
  pub decomposed : {es : List Event} {r : Run} (f : Factors) → FactorsLong r.shape.n f
      → e1_stop r mass jac f ≡ nowhere → e2_stop r mass jac f ≡ nowhere → P es (matrices r)
      → P (es ++ (factored r.numbers.h ∷ [])) (attempt (r ▸ in_counts one_lu ▸ in_counts one_lu))
  -- a failure
  pub sixth : {es : List Event} {r : Run} → 5 < r.control.singular_count + 1 → P es (failing r)
      → P es (asked (ended_of status.SingularMatrix (r ▸ in_control (set_singular (r.control.singular_count + 1)))))
  pub another : {es : List Event} {r : Run} (h hhfac : Float) → r.control.singular_count + 1 ≤ 5 → P es (failing r)
      → P es (main (r ▸ in_control (set_singular (r.control.singular_count + 1)) ▸ step_of h hhfac ▸ missed_of))
  -- an attempt
  pub limited : {es : List Event} {r : Run} → r.settings.max_steps < r.counts.total + 1 → P es (attempt r)
      → P (es ++ (over-limit ∷ [])) (asked (ended_of status.NeedLargerNMax (r ▸ in_counts one_total)))
  pub shortened : {es : List Event} {r : Run} → r.counts.total + 1 ≤ r.settings.max_steps → TooSmall r true
      → P es (attempt r)
      → P (es ++ (too_small r.numbers.h r.numbers.x ∷ []))
      (asked (ended_of status.StepSizeTooSmall (r ▸ in_counts one_total)))
  pub begins : {es : List Event} {r : Run} (faccon theta x : Float) → r.counts.total + 1 ≤ r.settings.max_steps
      → TooSmall r false → P es (attempt r)
      → P (es ++ (begun r.numbers.h r.numbers.x ∷ []))
      (asked (ask_derivative (begun_of faccon theta r) stage.Newton1 x place.ContToZ1))
  -- the Newton iteration
  pub first-stage : {es : List Event} {r : Run} (x : Float) → P es (replied stage.Newton1 r)
      → P es (asked (ask_derivative r stage.Newton2 x place.ContToZ2))
  pub second-stage : {es : List Event} {r : Run} (x : Float) → P es (replied stage.Newton2 r)
      → P es (asked (ask_derivative r stage.Newton3 x place.ContToZ3))
  pub not-near : {es : List Event} {r : Run} (theta thqold faccon dynold : Float) → P es (replied stage.Newton3 r)
      → P es (newton (iterated theta thqold faccon dynold r))
  pub near : {es : List Event} {r : Run} (theta thqold faccon dynold : Float) → P es (replied stage.Newton3 r)
      → P es (estimate (iterated theta thqold faccon dynold r))
  pub diverges : {es : List Event} {r : Run} (theta thqold faccon dynold : Float)
      → lt theta «0·99» ≡ false → P es (replied stage.Newton3 r)
      → P (es ++ (diverged theta ∷ [])) (failing (iterated theta thqold faccon dynold r))
  pub slow-rust : {es : List Event} {r : Run} (theta thqold faccon dynold dyth h hhfac : Float)
      → r.settings.rule ≡ rule.Rust → le «1·0» dyth ≡ true → P es (replied stage.Newton3 r)
      → P (es ++ (slow dyth ∷ []))
      (estimate (iterated theta thqold faccon dynold r ▸ slowed h hhfac ▸ in_control (set_last false)))
  pub slow-book : {es : List Event} {r : Run} (theta thqold faccon dynold dyth h hhfac : Float)
      → r.settings.rule ≡ rule.Book → le «1·0» dyth ≡ true → P es (replied stage.Newton3 r)
      → P (es ++ (slow dyth ∷ []))
      (main (iterated theta thqold faccon dynold r ▸ slowed h hhfac ▸ missed_of))
  pub used-up : {es : List Event} {r : Run} → r.settings.newton_maxiter ≤ r.control.newt_iter → P es (newton r)
      → P (es ++ (rounds-used r.control.newt_iter ∷ [])) (failing r)
  pub another-round : {es : List Event} {r : Run} (x : Float)
      → r.control.newt_iter < r.settings.newton_maxiter → P es (newton r)
      → P es (asked (ask_derivative r stage.Newton1 x place.ContToZ1))
  -- the error
  pub refines : {es : List Event} {r : Run} → P es (estimate r)
      → P (es ++ (error-solve ∷ [])) (asked (ask_refinement (r ▸ in_counts one_lu)))
  pub estimated : {es : List Event} {r : Run} → P es (estimate r)
      → P (es ++ (error-solve ∷ [])) (judging (r ▸ in_counts one_lu))
  pub refined : {es : List Event} {r : Run} → P es (replied stage.Refinement r) → P es (judging r)
  pub accepts : {es : List Event} {r : Run} (err hnew hacc erracc : Float) → le err «1·0» ≡ true → P es (judging r)
      → P (es ++ (accepted err r.numbers.h ∷ []))
      (asked (ask_accepted (accepted_run hnew hacc erracc r)))
  pub fails-first : {es : List Event} {r : Run} (err hnew h hhfac : Float)
      → le err «1·0» ≡ false → r.control.first ≡ true → P es (judging r)
      → P (es ++ (failed err ∷ [])) (main (r ▸ in_numbers (set_hnew hnew) ▸ step_of h hhfac ▸ missed_of))
  pub fails-later : {es : List Event} {r : Run} (err hnew h hhfac : Float)
      → le err «1·0» ≡ false → r.control.first ≡ false → P es (judging r)
      → P (es ++ (failed err ∷ []))
      (main (r ▸ in_numbers (set_hnew hnew) ▸ step_of h hhfac ▸ in_counts one_rejected ▸ missed_of))
  pub accepted-filled : {es : List Event} {r : Run} (offered : Bool) → P es (replied stage.Accepted r)
      → P es (asked
      (call (r ▸ at_stage stage.Report) (request.Report r.numbers.xold r.numbers.x offered) place.Nowhere))
