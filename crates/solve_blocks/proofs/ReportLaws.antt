-- A run which fits still fits past a report.
--     refit        a run that fits, with another control within its bounds and other numbers
use Prim.Native.Nat.{ℕ, ◌+◌, ◌≤◌}
use mathlib.Core.Path.{◌≡◌, refl}
use native.Mathlib.Omega.{arith}
use lib.Ieee.{Float}
use Rattle.words.proofs.Branch.{pick_all}
use Rattle.state.specs.declared.run.Control.{Control}
use Rattle.state.specs.declared.run.Numbers.{Numbers}
use Rattle.state.specs.declared.run.Run.{Run}
use Rattle.state.specs.declared.run.Stage.{Stage}
use Rattle.state.specs.declared.talk.Reply.{Reply}
use Rattle.state.specs.declared.talk.Reply.TheVariants as reply
use Rattle.solve_blocks.specs.declared.step.Step.{Step}
use Rattle.solve_blocks.specs.Setters.{in_control, in_numbers}
use Rattle.solve_blocks.specs.Events.{Logged}
use Rattle.solve_blocks.specs.Needs.{Fit, StepFit, HeardFit}
use Rattle.solve_blocks.specs.Report.{ask_modified, reported_of, grown_of, renewed_of, arrived_of}
use Rattle.solve_blocks.proofs.FitLaws.{fit-less}

-- ---- a run that fits

module _ {k n : ℕ} {r : Run} where
  refit : (c : Control) (m : Numbers) → c.newt_iter ≤ 17 → c.singular_count ≤ 5 → Fit k n r
      → Fit k n (in_control (λ (_ : Control). c) (in_numbers (λ (_ : Numbers). m) r))
  refit c m p q t = omega (arith, p, q)

-- ---- past a report

pub reported-fit : (k : ℕ) {n : ℕ} {r : Run} (again : Stage) (p : Reply) → Fit (k + 1) n r
    → HeardFit k n (reported_of again p r)
unfolding reported_of HeardFit
reported-fit k again reply.Filled t = fit-less t
reported-fit k again reply.Continue t = fit-less t
reported-fit k again reply.Interrupt t = tt
reported-fit k again (reply.Modified x) t = tt
reported-fit k again (reply.Mark xo) t = refit _ _ t.rounds t.failures (fit-less t)

-- the derivative at a modified point is counted
pub modified-counted : (again : Stage) (x : Float) (r : Run)
    → (ask_modified again x r).run.counts.ode ≡ r.counts.ode + 1
modified-counted again x r = refl

module _ {k n : ℕ} where
  grown-fit : (r : Run) (h : Float) → Fit k n r → Fit k n (grown_of r h)
  unfolding grown_of
  grown-fit r h t =
      pick_all (Fit k n) _ _ _ (λ _. refit _ _ t.rounds t.failures t) (λ _. refit _ _ t.rounds t.failures t)

  renewed-fit : (r : Run) (h : Float) → Fit k n r → StepFit k n (renewed_of r h).core
  unfolding renewed_of StepFit
  renewed-fit r h t =
      pick_all (λ (l : Logged Step). StepFit k n l.core) _ _ _
      (λ _. refit _ _ t.rounds t.failures t) (λ _. grown-fit r h t)

  pub arrived-fit : (r : Run) → Fit k n r → StepFit k n (arrived_of r).core
  unfolding arrived_of StepFit
  arrived-fit r t =
      pick_all (λ (l : Logged Step). StepFit k n l.core) _ _ _ (λ _. tt)
      (λ _. renewed-fit _ _ (refit _ _ t.rounds (omega arith) t))
