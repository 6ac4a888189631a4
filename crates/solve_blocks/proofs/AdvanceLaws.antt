-- The ways out of the functions of src/advance.rt: what a callee promises is what the definition says there.
use Prim.Native.Nat.{ℕ, ◌+◌, ◌*◌, ◌<◌, ◌^◌}
use mathlib.Core.Path.{◌≡◌, refl, sym, ap, subst, ◌∙◌}
use mathlib.Core.List.{List}
use native.Mathlib.Omega.{arith}
use lib.Ieee.{Float}
use Rattle.words.specs.Words.{◌⊕◌, ◌⊗◌}
use Rattle.words.specs.Grid.{Square}
use Rattle.scalar.specs.Coefficients.{C2}
use Rattle.state.specs.declared.run.Run.{Run}
use Rattle.state.specs.declared.run.Stage.{Stage}
use Rattle.state.specs.declared.run.Stage.TheVariants as stage
use Rattle.state.specs.declared.run.Status.{Status}
use Rattle.state.specs.declared.talk.Place.TheVariants.{ContToZ2, ContToZ3}
use Rattle.state.specs.declared.talk.Refusal.{Refusal}
use Rattle.state.specs.declared.talk.Reply.{Reply}
use Rattle.state.specs.Memory.{Memory, memory, amounts, Newton, Factors, Differences}
use Rattle.state.specs.MemorySetters.{set_scal, set_cont, set_y_cont, set_f12}
use Rattle.state.specs.MemorySetters.{set_newton, set_factors, set_differences}
use Rattle.state.specs.MemorySetters.{set_column}
use Rattle.opening.specs.Rows.{verdict_of}
use Rattle.opening.specs.Admission.{admission_rows}
use Rattle.state.specs.declared.talk.Call.{Call}
use Rattle.solve_blocks.specs.declared.step.Round.{Round}
use Rattle.solve_blocks.specs.declared.step.Round.TheVariants as round
use Rattle.solve_blocks.specs.declared.step.Step.{Step}
use Rattle.solve_blocks.specs.declared.step.Step.TheVariants as step
use Rattle.solve_blocks.specs.declared.step.Heard.{Heard}
use Rattle.solve_blocks.specs.declared.step.Heard.TheVariants as heard
use Rattle.solve_blocks.specs.Scale.{scaled_of}
use Rattle.solve_blocks.specs.Matrices.{ended_of, tried, passes_of}
use Rattle.solve_blocks.specs.Attempt.{staged, ask_stage_of, begun_as, attempt_of}
use Rattle.solve_blocks.specs.Newton.{round_done, round_of, resumed, again_of}
use Rattle.solve_blocks.specs.Judge.{judged, estimated, estimate_of, refined_of}
use Rattle.solve_blocks.specs.Report.{ask_first_report, ask_report, reported_of, arrived_of}
use Rattle.solve_blocks.specs.Jacobian.{asking, ask_jacobian_of, columned, column_of}
use Rattle.solve_blocks.specs.Advance.{Stepped, stepped, started_of, returned_of}
use Rattle.solve_blocks.specs.Advance.{conclude_of, replied_of, received_of, called, called_of}
use Rattle.solve_blocks.specs.Advance.{advance_outcome, advance_by, advance_of}
use Rattle.solve_blocks.specs.Needs.{Fit, StepFit, RoundFit, HeardFit, NewtonLong}
use Rattle.std.specs.Prelude.{Ok, Err}
use Rattle.state.specs.Talk.{Verdict, call, refused, passed_all}

-- ---- past a report

module _ (t : Heard) (m : Memory) where
  pub started-asked : (c : Call) → t ≡ heard.Asked c → stepped (step.Asked c) m ≡ started_of t m
  unfolding started_of
  started-asked c e = rw e

  pub started-on : (r : Run) (scal : List Float) → t ≡ heard.Reported r
      → scal
      ≡ scaled_of r.shape.n r.fixed.tolerances m.given.rtol
      m.given.atol m.amounts.y m.amounts.scal
      → stepped (step.Main r) (set_scal scal m) ≡ started_of t m
  unfolding started_of
  started-on r scal e es = rw (e, es)

-- ---- past a round

module _ (v : Round) (m : Memory) where
  pub conclude-again : (r : Run) (s : Step) (cont : List Float) → v ≡ round.Newton r
      → resumed s cont ≡ (again_of r m.amounts.y m.newton.z1 m.amounts.cont).core
      → stepped s (set_cont cont m) ≡ (conclude_of v m).core
  unfolding conclude_of
  conclude-again r s cont e es = rw (e, ← es)

  pub conclude-estimates : (r : Run) (s : Step) (y cont f1 f2 : List Float) → v ≡ round.Estimate r
      → estimated s y cont f1 f2
      ≡ (estimate_of r m.given.mass m.factors.e1 m.factors.ip1 m.amounts.f0 m.amounts.scal
      m.amounts.y m.amounts.cont m.newton).core
      → stepped s (set_f12 f1 f2 (set_y_cont y cont m)) ≡ (conclude_of v m).core
  unfolding conclude_of
  conclude-estimates r s y cont f1 f2 e es = rw (e, ← es)

  pub conclude-over : (s : Step) → v ≡ round.Over s → stepped s m ≡ (conclude_of v m).core
  unfolding conclude_of
  conclude-over s e = rw e

-- ---- past the matrices

module _ (s : Step) (m : Memory) where
  pub called-asked : (c : Call) → s ≡ step.Asked c → called c m ≡ (called_of s m).core
  unfolding called_of
  called-asked c e = rw e

  pub called-main : (r : Run) (c : Call) (d : Differences) → s ≡ step.Main r
      → asking c d ≡ ask_jacobian_of r m.amounts.y m.differences
      → called c (set_differences d m) ≡ (called_of s m).core
  unfolding called_of
  called-main r c d e ec = rw (e, ← ec)

  pub called-matrices : (r : Run) (c : Call) (d : Differences) → s ≡ step.Matrices r
      → asking c d ≡ ask_jacobian_of r m.amounts.y m.differences
      → called c (set_differences d m) ≡ (called_of s m).core
  unfolding called_of
  called-matrices r c d e ec = rw (e, ← ec)

  pub called-attempt : (r : Run) (c : Call) (scal cont : List Float) (z : Newton) → s ≡ step.Attempt r
      → begun_as c scal cont z ≡ (attempt_of r m.amounts.y m.amounts.scal m.amounts.cont m.newton).core
      → called c
      (memory (amounts m.amounts.y m.amounts.f0 scal cont) z m.given m.factors m.differences)
      ≡ (called_of s m).core
  unfolding called_of
  called-attempt r c scal cont z e ec = rw (e, ← ec)

-- ---- stage by stage

module _ (r : Run) (p : Reply) (m : Memory) where
  at-stage : (s : Stage) (t : Stepped) → r.stage ≡ s → t ≡ (replied_of s p r m).core
      → t ≡ (replied_of r.stage p r m).core
  at-stage s t e q = q ∙ ap (λ (u : Stage). (replied_of u p r m).core) (sym e)

  pub first-derivative : (c : Call) → r.stage ≡ stage.FirstDerivative → c ≡ ask_first_report r
      → stepped (step.Asked c) m ≡ (replied_of r.stage p r m).core
  unfolding replied_of
  first-derivative c e ec = at-stage _ _ e (ap (λ (d : Call). stepped (step.Asked d) m) ec)

  pub first-report : (t : Heard) (s : Stepped) → r.stage ≡ stage.FirstReport
      → t ≡ reported_of stage.FirstDerivativeAgain p r → s ≡ started_of t m → s ≡ (replied_of r.stage p r m).core
  unfolding replied_of
  first-report t s e et es = at-stage _ _ e (es ∙ ap (λ (u : Heard). started_of u m) et)

  pub first-again : (s : Stepped) → r.stage ≡ stage.FirstDerivativeAgain → s ≡ started_of (heard.Reported r) m
      → s ≡ (replied_of r.stage p r m).core
  unfolding replied_of
  first-again s e es = at-stage _ _ e es

  pub jacobian-made : r.stage ≡ stage.Jacobian → stepped (step.Matrices r) m ≡ (replied_of r.stage p r m).core
  unfolding replied_of
  jacobian-made e = at-stage _ _ e refl

  pub column-made : (c : ℕ) (s : Step) (yp jac : List Float) → r.stage ≡ stage.Column c
      → columned s yp jac
      ≡ column_of c r m.amounts.y m.differences.y_perturbed m.differences.f_perturbed
      m.differences.f_origin m.given.jac
      → stepped s (set_column yp jac m) ≡ (replied_of r.stage p r m).core
  unfolding replied_of
  column-made c s yp jac e es = at-stage _ _ e (rw (← es))

  pub newton-1 : (c : Call) (cont : List Float) → r.stage ≡ stage.Newton1
      → staged c cont
      ≡ ask_stage_of r stage.Newton2 (r.numbers.x ⊕ C2 ⊗ r.numbers.h) ContToZ2
      m.amounts.y m.newton.z2 m.amounts.cont
      → stepped (step.Asked c) (set_cont cont m) ≡ (replied_of r.stage p r m).core
  unfolding replied_of
  newton-1 c cont e ec = at-stage _ _ e (rw (← ec))

  pub newton-2 : (c : Call) (cont : List Float) → r.stage ≡ stage.Newton2
      → staged c cont
      ≡ ask_stage_of r stage.Newton3 r.numbers.xph ContToZ3 m.amounts.y m.newton.z3 m.amounts.cont
      → stepped (step.Asked c) (set_cont cont m) ≡ (replied_of r.stage p r m).core
  unfolding replied_of
  newton-2 c cont e ec = at-stage _ _ e (rw (← ec))

  pub newton-3 : (v : Round) (z : Newton) (s : Stepped) → r.stage ≡ stage.Newton3
      → round_done v z ≡ (round_of r m.given.mass m.amounts.scal m.factors m.newton).core
      → s ≡ (conclude_of v (set_newton z m)).core → s ≡ (replied_of r.stage p r m).core
  unfolding replied_of
  newton-3 v z s e ev es = at-stage _ _ e (rw (← ev) es)

  pub refinement : (s : Step) (y cont : List Float) → r.stage ≡ stage.Refinement
      → judged s y cont
      ≡ (refined_of r m.factors.e1 m.factors.ip1 m.amounts.scal
      m.amounts.y m.amounts.cont m.newton).core
      → stepped s (set_y_cont y cont m) ≡ (replied_of r.stage p r m).core
  unfolding replied_of
  refinement s y cont e es = at-stage _ _ e (rw (← es))

  pub accepted-there : (c : Call) (scal : List Float) → r.stage ≡ stage.Accepted → c ≡ ask_report r
      → scal
      ≡ scaled_of r.shape.n r.fixed.tolerances m.given.rtol
      m.given.atol m.amounts.y m.amounts.scal
      → stepped (step.Asked c) (set_scal scal m) ≡ (replied_of r.stage p r m).core
  unfolding replied_of
  accepted-there c scal e ec es = at-stage _ _ e (rw (ec, es))

  pub report-answered : (t : Heard) (s : Step) → r.stage ≡ stage.Report → t ≡ reported_of stage.DerivativeAgain p r
      → s ≡ (returned_of t).core → stepped s m ≡ (replied_of r.stage p r m).core
  unfolding replied_of
  report-answered t s e et es =
      at-stage _ _ e (ap (λ (u : Step). stepped u m) (es ∙ ap (λ (u : Heard). (returned_of u).core) et))

  pub derivative-again : (s : Step) → r.stage ≡ stage.DerivativeAgain → s ≡ (arrived_of r).core
      → stepped s m ≡ (replied_of r.stage p r m).core
  unfolding replied_of
  derivative-again s e es = at-stage _ _ e (ap (λ (u : Step). stepped u m) es)

  pub ended-already : (x : Status) (c : Call) → r.stage ≡ stage.Ended x → c ≡ ended_of x r
      → stepped (step.Asked c) m ≡ (replied_of r.stage p r m).core
  unfolding replied_of
  ended-already x c e ec = at-stage _ _ e (ap (λ (d : Call). stepped (step.Asked d) m) ec)

  -- ---- the advance

  pub advance-refused : (x : Refusal) → verdict_of (admission_rows r p m) ≡ Err x
      → advance_outcome (Err (refused r x)) m ≡ (advance_of r p m).core
  unfolding advance_by
  advance-refused x e = ap (λ (v : Verdict). (advance_by v r p m).core) (sym e)

  pub advance-passed : (t : Stepped) (s : Step) (f : Factors) (c : Call) (w : Memory)
      → verdict_of (admission_rows r p m) ≡ passed_all
      → t ≡ (received_of r p m).core
      → tried s f ≡ (passes_of t.step t.memory.given.mass t.memory.given.jac t.memory.factors).core
      → called c w ≡ (called_of s (set_factors f t.memory)).core
      → advance_outcome (Ok c) w ≡ (advance_of r p m).core
  unfolding advance_by
  advance-passed t s f c w e et es ec =
      let q : advance_outcome (Ok c) w
      ≡ (advance_by (Ok tt) r p m).core = rw (← et, ← es, ← ec) in
      q ∙ ap (λ (v : Verdict). (advance_by v r p m).core) (sym e)

-- ---- what the callees ask

fewer : {n : ℕ} {r : Run} → Fit 15 n r → Fit 2 n r
fewer f = omega arith

pub heard-fits : {n : ℕ} {r : Run} {t : Heard} → t ≡ heard.Reported r → HeardFit 15 n t → Fit 15 n r
unfolding HeardFit
heard-fits {n} e f = subst (HeardFit 15 n) e f

pub newton-fits : {n : ℕ} {r : Run} {v : Round} → v ≡ round.Newton r → RoundFit 15 n v → Fit 2 n r
unfolding RoundFit
newton-fits {n} e f = fewer (subst (RoundFit 15 n) e f)

pub estimate-fits : {n : ℕ} {r : Run} {v : Round} → v ≡ round.Estimate r → RoundFit 15 n v → Fit 2 n r
unfolding RoundFit
estimate-fits {n} e f = fewer (subst (RoundFit 15 n) e f)

pub main-fits : {n : ℕ} {r : Run} {s : Step} → s ≡ step.Main r → StepFit 2 n s → Fit 2 n r
unfolding StepFit
main-fits {n} e f = subst (StepFit 2 n) e f

pub matrices-fits : {n : ℕ} {r : Run} {s : Step} → s ≡ step.Matrices r → StepFit 2 n s → Fit 2 n r
unfolding StepFit
matrices-fits {n} e f = subst (StepFit 2 n) e f

pub attempt-fits : {n : ℕ} {r : Run} {s : Step} → s ≡ step.Attempt r → StepFit 2 n s → Fit 2 n r
unfolding StepFit
attempt-fits {n} e f = subst (StepFit 2 n) e f

-- lengths that are those of y are those of the run
module _ {r : Run} {m : ℕ} (fit : Fit 2 m r) where
  pub jacobian-asks : {yp fp fo : ℕ} → yp ≡ m → fp ≡ m → fo ≡ m
      → (r.counts.jac + 1 < 2 ^ 64) × (m ≡ r.shape.n) × (yp ≡ r.shape.n) × (fp ≡ r.shape.n) × (fo ≡ r.shape.n)
  jacobian-asks a b c = (
    omega (arith, fit),
    omega (arith, fit),
    omega (arith, fit, a),
    omega (arith, fit, b),
    omega (arith, fit, c),
  )

  own : Fit 2 r.shape.n r
  own = omega (arith, fit)

  pub attempt-asks : {scal cont : ℕ} {z : Newton} → scal ≡ m → cont ≡ 4 * m → NewtonLong m z
      → Fit 2 r.shape.n r
      × ((m ≡ r.shape.n) × (scal ≡ r.shape.n) × (cont ≡ 4 * r.shape.n) × NewtonLong r.shape.n z)
  attempt-asks {scal} {cont} {z} a b c = (
    own,
    (
      omega (arith, fit),
      omega (arith, fit, a),
      omega (arith, fit, b),
      subst (λ (n : ℕ). NewtonLong n z) (sym fit.order) c,
    ),
  )

  pub again-asks : {z1 cont : ℕ} → z1 ≡ m → cont ≡ 4 * m
      → Fit 1 r.shape.n r × ((m ≡ r.shape.n) × (z1 ≡ r.shape.n) × (cont ≡ 4 * r.shape.n))
  again-asks a b = (omega (arith, fit), (omega (arith, fit), omega (arith, fit, a), omega (arith, fit, b)))

  pub estimate-asks : {mass : List Float} {f0 scal cont z1 z2 z3 f1 f2 : ℕ}
      → Square m mass → f0 ≡ m → scal ≡ m → cont ≡ 4 * m
      → (z1 ≡ m) × (z2 ≡ m) × (z3 ≡ m) × (f1 ≡ m) × (f2 ≡ m)
      → (Fit 2 r.shape.n r
      × Square r.shape.n mass
      × (f0 ≡ r.shape.n)
      × (scal ≡ r.shape.n)
      × (m ≡ r.shape.n)
      × (cont ≡ 4 * r.shape.n))
      × ((z1 ≡ r.shape.n) × (z2 ≡ r.shape.n) × (z3 ≡ r.shape.n) × (f1 ≡ r.shape.n) × (f2 ≡ r.shape.n))
  estimate-asks {mass} q a b c z = (
    (
      own,
      subst (λ (n : ℕ). Square n mass) (sym fit.order) q,
      omega (arith, fit, a),
      omega (arith, fit, b),
      omega (arith, fit),
      omega (arith, fit, c),
    ),
    (omega (arith, fit, z), omega (arith, fit, z), omega (arith, fit, z), omega (arith, fit, z), omega (arith, fit, z)),
  )
