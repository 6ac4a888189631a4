-- What the private functions ask of their callers; nobody need believe it, since the offered function asks nothing.
--     Fit k n r        the run r has n amounts, and its counters have room for k more of each
--     StepFit k n s    so has the run of a step from which no request is open yet
--     Lengths n ..     the parts of a group have the lengths of n amounts
use Rattle.std.specs.Prelude.{ℕ, ◌+◌, ◌*◌, ◌≤◌, ◌<◌, ◌^◌, ◌≡◌, length}
use Rattle.words.specs.Grid.{Square}
use Rattle.state.specs.declared.run.Run.{Run}
use Rattle.state.specs.Memory.{Memory, Newton, Factors}
use Rattle.opening.specs.Admission.{asking_at}
use Rattle.solve_blocks.specs.declared.step.Step.{Step}
use Rattle.solve_blocks.specs.declared.step.Step.TheVariants as step
use Rattle.solve_blocks.specs.declared.step.Round.{Round}
use Rattle.solve_blocks.specs.declared.step.Round.TheVariants as round
use Rattle.solve_blocks.specs.declared.step.Heard.{Heard}
use Rattle.solve_blocks.specs.declared.step.Heard.TheVariants as heard

pub record Fit (k n : ℕ) (r : Run) : Type 0 where
  pub order : r.shape.n ≡ n
  pub low : 1 ≤ n
  pub high : n ≤ 32
  pub partition : r.shape.nind1 + r.shape.nind2 + r.shape.nind3 ≡ n
  pub limit : r.settings.newton_maxiter ≤ 16
  pub rounds : r.control.newt_iter ≤ 17
  pub failures : r.control.singular_count ≤ 5
  pub ode : r.counts.ode + k < 2 ^ 64
  pub jac : r.counts.jac + k < 2 ^ 64
  pub lu : r.counts.lu + k < 2 ^ 64
  pub total : r.counts.total + k < 2 ^ 64
  pub accepted : r.counts.accepted + k < 2 ^ 64
  pub rejected : r.counts.rejected + k < 2 ^ 64

unfoldable pub StepFit : ℕ → ℕ → Step → Type 0
StepFit k n (step.Asked c) = Unit
StepFit k n (step.Main r) = Fit k n r
StepFit k n (step.Matrices r) = Fit k n r
StepFit k n (step.Attempt r) = Fit k n r

unfoldable pub RoundFit : ℕ → ℕ → Round → Type 0
RoundFit k n (round.Newton r) = Fit k n r
RoundFit k n (round.Estimate r) = Fit k n r
RoundFit k n (round.Over s) = StepFit k n s

unfoldable pub HeardFit : ℕ → ℕ → Heard → Type 0
HeardFit k n (heard.Asked c) = Unit
HeardFit k n (heard.Reported r) = Fit k n r

pub record NewtonLong (n : ℕ) (m : Newton) : Type 0 where
  pub z1 : length m.z1 ≡ n
  pub z2 : length m.z2 ≡ n
  pub z3 : length m.z3 ≡ n
  pub f1 : length m.f1 ≡ n
  pub f2 : length m.f2 ≡ n
  pub f3 : length m.f3 ≡ n

pub record FactorsLong (n : ℕ) (f : Factors) : Type 0 where
  pub e1 : Square n f.e1
  pub e2r : Square n f.e2r
  pub e2i : Square n f.e2i
  pub ip1 : length f.ip1 ≡ n
  pub ip2 : length f.ip2 ≡ n

pub record MemoryLong (n : ℕ) (m : Memory) : Type 0 where
  pub y : length m.amounts.y ≡ n
  pub f0 : length m.amounts.f0 ≡ n
  pub scal : length m.amounts.scal ≡ n
  pub cont : length m.amounts.cont ≡ 4 * n
  pub newton : NewtonLong n m.newton
  pub rtol : length m.given.rtol ≡ n
  pub atol : length m.given.atol ≡ n
  pub mass : Square n m.given.mass
  pub jac : Square n m.given.jac
  pub factors : FactorsLong n m.factors
  pub y_perturbed : length m.differences.y_perturbed ≡ n
  pub f_perturbed : length m.differences.f_perturbed ≡ n
  pub f_origin : length m.differences.f_origin ≡ n

-- the column of a difference Jacobian is one of n, and a round is left of those that may be begun
pub record StageFit (n : ℕ) (r : Run) : Type 0 where
  pub column : (asking_at r.stage).column ≤ n
  pub rounds : r.control.newt_iter ≤ 16
