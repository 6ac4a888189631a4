-- What is left of `Fit` past a reply, and what `replied` and `advance` ask of their callees.
use Prim.Native.Nat.{ℕ, ◌*◌, ◌≤◌}
use mathlib.Core.Path.{◌≡◌, sym, subst, ◌∙◌}
use mathlib.Core.List.{List}
use native.Mathlib.Omega.{arith}
use lib.Ieee.{Float}
use Rattle.words.specs.Grid.{Square}
use Rattle.state.specs.declared.run.Run.{Run}
use Rattle.state.specs.declared.run.Stage.{Stage}
use Rattle.state.specs.declared.run.Stage.TheVariants as stage
use Rattle.state.specs.declared.talk.Reply.{Reply}
use Rattle.state.specs.Memory.{Memory, Newton, Factors}
use Rattle.opening.specs.Admission.{asking_at}
use Rattle.solve_blocks.specs.declared.step.Round.{Round}
use Rattle.solve_blocks.specs.declared.step.Round.TheVariants as round
use Rattle.solve_blocks.specs.declared.step.Step.{Step}
use Rattle.solve_blocks.specs.declared.step.Step.TheVariants as step
use Rattle.solve_blocks.specs.declared.step.Heard.{Heard}
use Rattle.solve_blocks.specs.declared.step.Heard.TheVariants as heard
use Rattle.solve_blocks.specs.Matrices.{Tried, tried, passes_of}
use Rattle.solve_blocks.specs.Newton.{RoundDone, round_done, round_of}
use Rattle.solve_blocks.specs.Report.{reported_of}
use Rattle.solve_blocks.specs.Advance.{Stepped, started_of, returned_of, conclude_of, replied_of}
use Rattle.solve_blocks.specs.Needs.{Fit, StepFit, RoundFit, HeardFit, StageFit, NewtonLong}
use Rattle.solve_blocks.proofs.FitLaws.{passes-fit}
use Rattle.solve_blocks.proofs.RoundLaws.{round-fit, again-fit}
use Rattle.solve_blocks.proofs.JudgeLaws.{estimate-fit, refined-fit}
use Rattle.solve_blocks.proofs.ReportLaws.{reported-fit, arrived-fit}
use Rattle.solve_blocks.proofs.JacobianLaws.{column-fit}

-- ---- room for fewer

step_fewer : (n : ℕ) (s : Step) → StepFit 15 n s → StepFit 14 n s
unfolding StepFit
step_fewer n (step.Asked c) f = tt
step_fewer n (step.Main r) f = omega arith
step_fewer n (step.Matrices r) f = omega arith
step_fewer n (step.Attempt r) f = omega arith

pub step_less : (n : ℕ) (s : Step) → StepFit 14 n s → StepFit 12 n s
unfolding StepFit
step_less n (step.Asked c) f = tt
step_less n (step.Main r) f = omega arith
step_less n (step.Matrices r) f = omega arith
step_less n (step.Attempt r) f = omega arith

-- ---- past a reply

conclude-fit : (n : ℕ) (m : Memory) (v : Round) → RoundFit 15 n v → StepFit 14 n (conclude_of v m).core.step
unfolding conclude_of RoundFit
conclude-fit n m (round.Newton r) f = again-fit 14 n _ _ _ (omega arith)
conclude-fit n m (round.Estimate r) f = estimate-fit 14 n r f _ _ _ _ _ _ _ _
conclude-fit n m (round.Over s) f = step_fewer n s f

module _ (n : ℕ) (m : Memory) where
  started-fit : (t : Heard) → HeardFit 15 n t → StepFit 14 n (started_of t m).step
  unfolding started_of HeardFit StepFit
  started-fit (heard.Asked c) f = tt
  started-fit (heard.Reported r) f = omega arith

  returned-fit : (t : Heard) → HeardFit 15 n t → StepFit 14 n (returned_of t).core
  unfolding returned_of HeardFit StepFit
  returned-fit (heard.Asked c) f = tt
  returned-fit (heard.Reported r) f = arrived-fit r (omega arith)

  module _ (p : Reply) (r : Run) (fit : Fit 16 n r) (rounds : r.control.newt_iter ≤ 16) where
    less : Fit 15 n r
    less = omega arith

    few : Fit 14 n r
    few = omega arith

    stage-fit : (s : Stage) → StepFit 14 n (replied_of s p r m).core.step
    unfolding replied_of StepFit started_of
    stage-fit stage.FirstDerivative = tt
    stage-fit stage.FirstReport =
        started-fit (reported_of stage.FirstDerivativeAgain p r) (reported-fit 15 stage.FirstDerivativeAgain p fit)
    stage-fit stage.FirstDerivativeAgain = few
    stage-fit stage.Jacobian = few
    stage-fit (stage.Column c) = column-fit c _ _ _ _ _ few
    stage-fit stage.Newton1 = tt
    stage-fit stage.Newton2 = tt
    stage-fit stage.Newton3 = conclude-fit n _ _ (round-fit 15 n _ _ _ _ fit rounds)
    stage-fit stage.Refinement = refined-fit 14 n r less _ _ _ _ _ _
    stage-fit stage.Accepted = tt
    stage-fit stage.Report =
        returned-fit (reported_of stage.DerivativeAgain p r) (reported-fit 15 stage.DerivativeAgain p fit)
    stage-fit stage.DerivativeAgain = arrived-fit r few
    stage-fit (stage.Ended s) = tt

    pub replied-fit : (t : Stepped) → t ≡ (replied_of r.stage p r m).core → StepFit 14 n t.step
    replied-fit t e = subst (λ (u : Stepped). StepFit 14 n u.step) (sym e) (stage-fit r.stage)

-- past the matrices
pub passed-fit : (n : ℕ) (s t : Step) (mass jac : List Float) (f g : Factors) → StepFit 14 n s
    → tried t g ≡ (passes_of s mass jac f).core → StepFit 2 n t
passed-fit n s t mass jac f g h e = subst (λ (u : Tried). StepFit 2 n u.step) (sym e) (passes-fit n mass jac 2 s f h)

-- ---- what the callees ask

module _ {n : ℕ} {r : Run} (fit : Fit 16 n r) where
  pub heard-asks : {t : Heard} (again : Stage) (p : Reply) (y : ℕ) → t ≡ reported_of again p r → y ≡ n → HeardFit 15 y t
  heard-asks {t} again p y e l =
      subst (λ (j : ℕ). HeardFit 15 j t) (sym l) (subst (HeardFit 15 n) (sym e) (reported-fit 15 again p fit))

  pub again-heard : (y : ℕ) → y ≡ n → HeardFit 15 y (heard.Reported r)
  unfolding HeardFit
  again-heard y l = omega (arith, fit, l)

  pub round-asks : {v : Round} {z' : Newton} (mass scal : List Float) (f : Factors) (z : Newton) (y : ℕ)
      → r.control.newt_iter ≤ 16 → round_done v z' ≡ (round_of r mass scal f z).core → y ≡ n → RoundFit 15 y v
  round-asks {v} mass scal f z y rounds e l =
      subst (λ (j : ℕ). RoundFit 15 j v) (sym l)
      (subst (λ (u : RoundDone). RoundFit 15 n u.round) (sym e) (round-fit 15 n mass scal f z fit rounds))

pub column-asks : {n c : ℕ} {r : Run} → StageFit n r → r.stage ≡ stage.Column c → c ≤ n
unfolding asking_at
column-asks {n} f e = subst (λ (s : Stage). (asking_at s).column ≤ n) e f.column

pub called-asks : {n : ℕ} (s : Step) {y scal cont yp fp fo : ℕ} {z : Newton} → StepFit 2 n s → y ≡ n → scal ≡ n
    → cont ≡ 4 * n → NewtonLong n z → yp ≡ n → fp ≡ n → fo ≡ n
    → (StepFit 2 y s × (scal ≡ y) × (cont ≡ 4 * y) × NewtonLong y z) × ((yp ≡ y) × (fp ≡ y) × (fo ≡ y))
called-asks {n} s {z = z} f y scal cont m yp fp fo = (
  (
    subst (λ (j : ℕ). StepFit 2 j s) (sym y) f,
    scal ∙ sym y,
    omega (arith, cont, y),
    subst (λ (j : ℕ). NewtonLong j z) (sym y) m,
  ),
  (yp ∙ sym y, fp ∙ sym y, fo ∙ sym y),
)

pub square-at : {n : ℕ} {a : List Float} (y : ℕ) → y ≡ n → Square n a → Square y a
square-at {a = a} y e s = subst (λ (j : ℕ). Square j a) (sym e) s
