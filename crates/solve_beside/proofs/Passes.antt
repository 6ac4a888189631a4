-- A failure, and the passes through the matrices: only the making of E1 and E2 looks at the Jacobian.
use Prim.Native.Nat.{ℕ}
use mathlib.Core.Path.{◌≡◌, refl, sym, ap, ◌∙◌, subst}
use mathlib.Core.Bool.{Bool, true, true≢false}
use mathlib.Core.List.{List, ◌++◌}
use lib.Ieee.{Float}
use Rattle.words.specs.Loop.{pick}
use Rattle.words.proofs.Branch.{pick_all}
use Rattle.state.specs.declared.settings.Mass.{Mass}
use Rattle.state.specs.declared.run.Run.{Run}
use Rattle.state.specs.Memory.{Factors, factors}
use Rattle.state.specs.MemorySetters.{set_factors}
use Rattle.solve_blocks.specs.declared.step.Step.{Step}
use Rattle.solve_blocks.specs.declared.step.Step.TheVariants as step
use Rattle.solve_blocks.specs.Setters.{◌▸◌, in_counts, in_notes, one_lu, set_latest}
use Rattle.solve_blocks.specs.Events.{Event, Logged, logged, quiet, and_then}
use Rattle.solve_blocks.specs.Entries.{Three, three}
use Rattle.solve_blocks.specs.Matrices.{failed_of, built_of, Tried, tried, complex_tried_of, real_tried_of, tried_of}
use Rattle.solve_blocks.specs.Matrices.{passes_on, run_of, pass_at, passes_of}
use Rattle.solve_blocks.specs.Advance.{Stepped, stepped, passed_of}
use Rattle.solve_beside.specs.Changes.{Changes, run_by, memory_by}
use Rattle.solve_beside.proofs.Branches.{pick-maps, pick-maps-where, loop-maps, on_core}
use Rattle.solve_beside.proofs.Carried.{on_step, on_tried, on_stepped, RuleSame}

-- ---- the order is kept

-- the run of a step from which no request is open yet has n amounts
unfoldable pub StepOf : ℕ → Step → Type 0
StepOf n (step.Asked c) = Unit
StepOf n (step.Main r) = r.shape.n ≡ n
StepOf n (step.Matrices r) = r.shape.n ≡ n
StepOf n (step.Attempt r) = r.shape.n ≡ n

failed-of : (n : ℕ) (r : Run) → r.shape.n ≡ n → StepOf n (failed_of r)
unfolding failed_of StepOf
failed-of n r e = pick_all (StepOf n) _ _ _ (λ _. tt) (λ _. e)

complex-of : (n : ℕ) (r : Run) (f : Factors) → r.shape.n ≡ n → StepOf n (complex_tried_of r f).core.step
unfolding complex_tried_of StepOf
complex-of n r f e =
    pick_all (λ (l : Logged Tried). StepOf n l.core.step) _ _ _
    (λ _. failed-of n (r ▸ in_counts one_lu ▸ in_notes (set_latest _)) e) (λ _. e)

tried-of : (n : ℕ) (r : Run) (mass jac : List Float) (f : Factors) → r.shape.n ≡ n
    → StepOf n (tried_of r mass jac f).core.step
unfolding tried_of real_tried_of StepOf
tried-of n r mass jac f e =
    pick_all (λ (l : Logged Tried). StepOf n l.core.step) r.control.call_decomp _ _
    (λ _. pick_all (λ (l : Logged Tried). StepOf n l.core.step) _ _ _
    (λ _. failed-of n (r ▸ in_counts one_lu ▸ in_notes (set_latest _)) e)
    (λ _. complex-of n (r ▸ in_counts one_lu) _ e))
    (λ _. e)

step_of : (n : ℕ) (s : Step) → passes_on s ≡ true → StepOf n s → (run_of s).shape.n ≡ n
unfolding StepOf
step_of n (step.Asked c) on h = absurd (true≢false (sym on))
step_of n (step.Main r) on h = h
step_of n (step.Matrices r) on h = h
step_of n (step.Attempt r) on h = h

-- ---- a failure, and a pass

-- E1 and E2 are made of the one Jacobian as of the other
abbrev pub BuiltSame : Changes → ℕ → Type 0
BuiltSame c n =
    (mode : Mass) (mass jac : List Float) (h : Float) (x : Three)
    → built_of mode n mass (c.jac jac) h x ≡ built_of mode n mass jac h x

module _ (c : Changes) (rules : RuleSame c) where
  pub failed-same : (r : Run) → failed_of (run_by c r) ≡ on_step c (failed_of r)
  unfolding failed_of
  failed-same r = pick-maps (on_step c) _ refl (ap step.Main (rules.missed _))

  tried-failed : (r : Run) (f : Factors) (es : List Event)
      → logged (tried (failed_of (run_by c r)) f) es ≡ on_core (on_tried c) (logged (tried (failed_of r) f) es)
  tried-failed r f es = ap (λ (s : Step). logged (tried s f) es) (failed-same r)

  complex-same : (r : Run) (f : Factors) → complex_tried_of (run_by c r) f ≡ on_core (on_tried c) (complex_tried_of r f)
  unfolding complex_tried_of
  complex-same r f =
      pick-maps (on_core (on_tried c)) _ (tried-failed (r ▸ in_counts one_lu ▸ in_notes (set_latest _)) _ _) refl

  real_same : (r : Run) (f : Factors) → real_tried_of (run_by c r) f ≡ on_core (on_tried c) (real_tried_of r f)
  unfolding real_tried_of
  real_same r f =
      pick-maps (on_core (on_tried c)) _ (tried-failed (r ▸ in_counts one_lu ▸ in_notes (set_latest _)) _ _)
      (complex-same (r ▸ in_counts one_lu) _)

  on_same : (s : Step) → passes_on (on_step c s) ≡ passes_on s
  on_same (step.Asked a) = refl
  on_same (step.Main r) = refl
  on_same (step.Matrices r) = refl
  on_same (step.Attempt r) = refl

  run-same : (s : Step) → run_of (on_step c s) ≡ run_by c (run_of s)
  run-same (step.Asked a) = refl
  run-same (step.Main r) = refl
  run-same (step.Matrices r) = refl
  run-same (step.Attempt r) = refl

  module _ (n : ℕ) (built-same : BuiltSame c n) where
    built-at : (k : ℕ) → k ≡ n → BuiltSame c k
    built-at k is = subst (BuiltSame c) (sym is) built-same

    tried_same : (r : Run) (mass jac : List Float) (f : Factors) → r.shape.n ≡ n
        → tried_of (run_by c r) mass (c.jac jac) f ≡ on_core (on_tried c) (tried_of r mass jac f)
    unfolding tried_of
    tried_same r mass jac f is =
        let x = three f.e1 f.e2r f.e2i in
        let built = built-at r.shape.n is r.settings.mass mass jac r.numbers.h x in
        pick-maps (on_core (on_tried c)) _
        (ap (λ (b : Three). real_tried_of (run_by c r) (factors b.one b.two b.three f.ip1 f.ip2)) built
        ∙ real_same r _)
        refl

    -- ---- six passes

    module _ (mass jac : List Float) where
      abbrev more : List Float → Tried → Logged Tried
      more j t = tried_of (run_of t.step) mass j t.factors

      after_same : (l : Logged Tried) → (run_of l.core.step).shape.n ≡ n
          → and_then (on_core (on_tried c) l) (more (c.jac jac)) ≡ on_core (on_tried c) (and_then l (more jac))
      after_same l is =
          ap (λ (m : Logged Tried). logged m.core (l.log ++ m.log))
          (ap (λ (r : Run). tried_of r mass (c.jac jac) l.core.factors) (run-same l.core.step)
          ∙ tried_same (run_of l.core.step) mass jac l.core.factors is)

      pass_same : (k : ℕ) (l : Logged Tried) → StepOf n l.core.step
          → pass_at mass (c.jac jac) k (on_core (on_tried c) l) ≡ on_core (on_tried c) (pass_at mass jac k l)
      unfolding pass_at
      pass_same k l is =
          let on = on_core (on_tried c) in
          ap (λ (b : Bool). pick b (and_then (on l) (more (c.jac jac))) (on l)) (on_same l.core.step)
          ∙ pick-maps-where on (passes_on l.core.step) (λ e. after_same l (step_of n l.core.step e is))
          (λ off. refl)

      pass_of : (k : ℕ) (l : Logged Tried) → StepOf n l.core.step → StepOf n (pass_at mass jac k l).core.step
      unfolding pass_at
      pass_of k l is =
          pick_all (λ (x : Logged Tried). StepOf n x.core.step) (passes_on l.core.step) _ _
          (λ on. tried-of n (run_of l.core.step) mass jac l.core.factors (step_of n l.core.step on is))
          (λ _. is)

      passes_same : (s : Step) (f : Factors) → StepOf n s
          → passes_of (on_step c s) mass (c.jac jac) f ≡ on_core (on_tried c) (passes_of s mass jac f)
      unfolding passes_of
      passes_same s f is =
          loop-maps (λ (l : Logged Tried). StepOf n l.core.step) (on_core (on_tried c))
          (pass_at mass jac) (pass_at mass (c.jac jac)) pass_of pass_same 0 6 (quiet (tried s f)) is

    pub passed-same : (t : Stepped) → StepOf n t.step
        → passed_of (on_stepped c t) ≡ on_core (on_stepped c) (passed_of t)
    passed-same t is =
        ap (λ (l : Logged Tried). logged
        (stepped l.core.step (set_factors l.core.factors (memory_by c t.memory))) l.log)
        (passes_same t.memory.given.mass t.memory.given.jac t.step t.memory.factors is)
