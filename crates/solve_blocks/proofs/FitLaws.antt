-- What the definitions keep of `Fit`: a run stays one of n amounts, with its counters in bounds
-- and room for fewer more.
--     fit-less                                                    room for one more is room
--     counted-fit, failed-fit, tried-fit, loop-fit, passes-fit    past a count, a failure, a pass, some passes, all of
--                                                                 them
--     pass-fit, next-fit, pass-asks                               where a step passes on: its run fits, has room for a
--                                                                 pass, and meets what the code's pass asks
--     passes-settle                                               after six passes no other is wanted
use Prim.Native.Nat.{ℕ, zero, suc, ◌+◌, ◌*◌, ◌-◌, ◌≤◌, ◌<◌}
use mathlib.Core.Bool.{Bool, true, false, true≢false}
use mathlib.Core.Path.{◌≡◌, refl, sym, ap, ◌∙◌, subst}
use mathlib.Core.List.{List}
use native.Mathlib.Omega.{arith}
use lib.Dec.{ltb}
use lib.Ieee.{Float}
use borrow.Author.Tests.{ltb-false}
use Rattle.words.specs.Loop.{loop}
use Rattle.words.specs.Grid.{Square}
use Rattle.words.proofs.Branch.{pick_all}
use Rattle.words.proofs.Loops.{loop-none, loop-more, Ran}
use Rattle.state.specs.declared.run.Run.{Run}
use Rattle.state.specs.Memory.{Factors}
use Rattle.solve_blocks.specs.declared.step.Step.{Step}
use Rattle.solve_blocks.specs.declared.step.Step.TheVariants as step
use Rattle.solve_blocks.specs.Setters.{◌▸◌, in_counts, in_notes, one_lu, set_latest}
use Rattle.solve_blocks.specs.Events.{Logged}
use Rattle.solve_blocks.specs.Matrices.{failed_of, Tried, tried, complex_tried_of}
use Rattle.solve_blocks.specs.Matrices.{real_tried_of, tried_of, passes_on, run_of, passes_of}
use Rattle.solve_blocks.specs.Needs.{Fit, StepFit, FactorsLong}
use Rattle.solve_blocks.proofs.PassLaws.{passed, passes-core}
use Rattle.std.specs.Prelude.{Option}
use Rattle.state.specs.declared.run.Singular.{Singular}

-- ---- past a count, and past a failure

module _ {k n : ℕ} {r : Run} where
  pub fit-less : Fit (k + 1) n r → Fit k n r
  fit-less fit = omega arith

  pub counted-fit : Fit (k + 1) n r → Fit k n (in_counts one_lu r)
  counted-fit fit = omega arith

  pub failed-fit : Fit k n r → StepFit k n (failed_of r)
  unfolding failed_of StepFit
  failed-fit fit =
      pick_all (StepFit k n) (ltb 5 (r.control.singular_count + 1)) _ _ (λ _. tt) (λ e. omega (arith, ltb-false))

module _ {k n : ℕ} (r : Run) {at : Option Singular} where
  pub noted-fit : Fit k n r → Fit k n (in_notes (set_latest at) r)
  noted-fit fit = omega arith

-- ---- a step that passes on

no-pass : {A : Type 0} → false ≡ true → A
no-pass e = absurd (true≢false (sym e))

pub pass-fit : (k n : ℕ) (s : Step) → StepFit k n s → passes_on s ≡ true → Fit k n (run_of s)
unfolding StepFit
pass-fit k n (step.Asked c) fit e = no-pass e
pass-fit k n (step.Main r) fit e = fit
pass-fit k n (step.Matrices r) fit e = fit
pass-fit k n (step.Attempt r) fit e = no-pass e

-- ---- past a pass

module _ (k n : ℕ) where
  complex-fit : {r : Run} (f : Factors) → Fit (k + 1) n r → StepFit k n (complex_tried_of r f).core.step
  unfolding complex_tried_of StepFit
  complex-fit {r} f fit =
      pick_all (λ (l : Logged Tried). StepFit k n l.core.step) _ _ _
      (λ _. failed-fit (noted-fit (in_counts one_lu r) (counted-fit fit))) (λ _. counted-fit fit)

  real-fit : {r : Run} (f : Factors) → Fit (k + 2) n r → StepFit k n (real_tried_of r f).core.step
  unfolding real_tried_of
  real-fit {r} f fit =
      let none : Fit k n (in_counts one_lu r) = omega arith in
      let one : Fit (k + 1) n (in_counts one_lu r) = omega arith in
      pick_all (λ (l : Logged Tried). StepFit k n l.core.step) _ _ _
      (λ _. failed-fit (noted-fit (in_counts one_lu r) none)) (λ _. complex-fit _ one)

  pub tried-fit : {r : Run} (mass jac : List Float) (f : Factors) → Fit (k + 2) n r
      → StepFit k n (tried_of r mass jac f).core.step
  unfolding tried_of StepFit
  tried-fit {r} mass jac f fit =
      pick_all (λ (l : Logged Tried). StepFit k n l.core.step)
      r.control.call_decomp _ _ (λ _. real-fit _ fit) (λ _. omega arith)

  less-fit : (s : Step) → StepFit (k + 2) n s → StepFit k n s
  unfolding StepFit
  less-fit (step.Asked c) fit = tt
  less-fit (step.Main r) fit = omega arith
  less-fit (step.Matrices r) fit = omega arith
  less-fit (step.Attempt r) fit = omega arith

  passed-fit : (mass jac : List Float) (i : ℕ) (t : Tried) → StepFit (k + 2) n t.step
      → StepFit k n (passed mass jac i t).step
  unfolding passed
  passed-fit mass jac i t fit =
      pick_all (λ (u : Tried). StepFit k n u.step) (passes_on t.step) _ _
      (λ e. tried-fit mass jac t.factors (pass-fit (k + 2) n t.step fit e))
      (λ _. less-fit t.step fit)

-- ---- past the passes

-- what every turn moves along holds past any number of turns
module _ {A : Type 0} (f : ℕ → A → A) (P : ℕ → A → Type 0) (turn : (i : ℕ) (s : A) → P i s → P (i + 1) (f i s)) where
  along : (i : ℕ) (s : A) → P 0 s → P i (loop f 0 i s)
  along zero s p = subst (P 0) (sym (loop-none f 0 s)) p
  along (suc i) s p =
      let e : i + 1 ≡ suc i = omega arith in
      subst (λ (j : ℕ). P j (loop f 0 j s)) e
      (subst (P (i + 1)) (sym (loop-more f 0 i s (omega arith))) (turn i (loop f 0 i s) (along i s p)))

module _ (n : ℕ) (mass jac : List Float) where
  -- i passes take room for 2 * i
  pub loop-fit : (m : ℕ) (t : Tried) → StepFit m n t.step → (i k : ℕ) → k + 2 * i ≡ m
      → StepFit k n (loop (passed mass jac) 0 i t).step
  loop-fit m t fit i =
      along (passed mass jac) (λ (i : ℕ) (t : Tried). (k : ℕ) → k + 2 * i ≡ m → StepFit k n t.step)
      (λ i t p k e. passed-fit k n mass jac i t (p (k + 2) (omega arith)))
      i t
      (λ k e. let same : m ≡ k = omega arith in subst (λ (j : ℕ). StepFit j n t.step) same fit)

  pub passes-fit : (k : ℕ) (s : Step) (f : Factors) → StepFit (k + 12) n s
      → StepFit k n (passes_of s mass jac f).core.step
  passes-fit k s f fit =
      subst (λ (t : Tried). StepFit k n t.step) (sym (passes-core mass jac s f))
      (loop-fit (k + 12) (tried s f) fit 6 k refl)

  -- where the code makes another pass, its run has room for it
  module _ {P : Tried → Type 0} {i : ℕ} {s₀ s : Step} {f₀ f : Factors}
      (ran : Ran (passed mass jac) P 0 6 i (tried s₀ f₀) (tried s f)) where
    pub next-fit : {r : Run} → StepFit 12 n s₀ → i < 6 → passes_on s ≡ true → r ≡ run_of s → Fit 2 n r
    next-fit {r} fit h on same =
        let k : ℕ = 12 - 2 * i in
        let here : StepFit k n s =
        subst (λ (t : Tried). StepFit k n t.step) (sym ran.is)
        (loop-fit 12 (tried s₀ f₀) fit i k (omega arith)) in
        let own : Fit k n r = subst (Fit k n) (sym same) (pass-fit k n s here on) in
        omega arith

-- what the code's pass asks for
pub pass-asks : {n : ℕ} {r : Run} {mass jac : List Float} {f : Factors} → Fit 2 n r
    → Square n mass → Square n jac → FactorsLong n f
    → Fit 2 r.shape.n r × (Square r.shape.n mass × Square r.shape.n jac × FactorsLong r.shape.n f)
pass-asks {n} {r} {mass} {jac} {f} fit m j l =
    subst (λ (k : ℕ). Fit 2 k r × (Square k mass × Square k jac × FactorsLong k f)) (sym fit.order) (fit, (m, j, l))

-- ---- six passes are enough

-- a step that passes on has met i failures
abbrev Failures : ℕ → Step → Type 0
Failures i s = passes_on s ≡ true → i ≤ (run_of s).control.singular_count

failed-more : (i : ℕ) (r : Run) → i ≤ r.control.singular_count → Failures (i + 1) (failed_of r)
unfolding failed_of
failed-more i r met =
    pick_all (Failures (i + 1)) (ltb 5 (r.control.singular_count + 1)) _ _ (λ _ e. no-pass e) (λ _ e. omega arith)

complex-more : (i : ℕ) (r : Run) (f : Factors) → i ≤ r.control.singular_count
    → Failures (i + 1) (complex_tried_of r f).core.step
unfolding complex_tried_of
complex-more i r f met =
    pick_all (λ (l : Logged Tried). Failures (i + 1) l.core.step) _ _ _
    (λ _. failed-more i (r ▸ in_counts one_lu ▸ in_notes (set_latest _)) met) (λ _ e. no-pass e)

real-more : (i : ℕ) (r : Run) (f : Factors) → i ≤ r.control.singular_count
    → Failures (i + 1) (real_tried_of r f).core.step
unfolding real_tried_of
real-more i r f met =
    pick_all (λ (l : Logged Tried). Failures (i + 1) l.core.step) _ _ _
    (λ _. failed-more i (r ▸ in_counts one_lu ▸ in_notes (set_latest _)) met)
    (λ _. complex-more i (in_counts one_lu r) _ met)

module _ (mass jac : List Float) where
  tried-more : (i : ℕ) (r : Run) (f : Factors) → i ≤ r.control.singular_count
      → Failures (i + 1) (tried_of r mass jac f).core.step
  unfolding tried_of
  tried-more i r f met =
      pick_all (λ (l : Logged Tried). Failures (i + 1) l.core.step) r.control.call_decomp _ _
      (λ _. real-more i r _ met) (λ _ e. no-pass e)

  passed-more : (i : ℕ) (t : Tried) → Failures i t.step → Failures (i + 1) (passed mass jac i t).step
  unfolding passed
  passed-more i t met =
      pick_all (λ (u : Tried). Failures (i + 1) u.step) (passes_on t.step) _ _
      (λ e. tried-more i (run_of t.step) t.factors (met e))
      (λ e e'. no-pass (sym e ∙ e'))

never : (b : Bool) → (b ≡ true → ⊥) → b ≡ false
never true h = absurd (h refl)
never false h = refl

pub passes-settle : (k n : ℕ) (mass jac : List Float) (s : Step) (f : Factors) → StepFit (k + 12) n s
    → passes_on (passes_of s mass jac f).core.step ≡ false
passes-settle k n mass jac s f fit =
    let t : Tried = loop (passed mass jac) 0 6 (tried s f) in
    let met : Failures 6 t.step =
    along (passed mass jac) (λ (i : ℕ) (u : Tried). Failures i u.step)
    (passed-more mass jac) 6 (tried s f) (λ e. omega arith) in
    ap (λ (u : Tried). passes_on u.step) (passes-core mass jac s f)
    ∙ never (passes_on t.step)
    (λ on. omega (arith, met on, pass-fit k n t.step (loop-fit n mass jac (k + 12) (tried s f) fit 6 k refl) on))
