-- The ways through a pass, over variables: what the code's tests and calls showed, and the
-- definition's value that follows.
--     complex-failed, complex-done, real-failed, real-done, pass-made, pass_kept    out of the two decompositions, and
--                                                                                   out of a pass
--     core-loop, passed, passes-core                                                the passes without their events: a
--                                                                                   loop of the code's own form
--     passes-turned, passes-stopped, passes-ended                                   one pass more, and out of the
--                                                                                   passes
use Prim.Native.Nat.{ℕ, zero, suc, ◌+◌, ◌-◌, ◌≤◌, ◌<◌}
use mathlib.Core.Bool.{Bool, true, false}
use mathlib.Core.Path.{◌≡◌, refl, sym, ap, ◌∙◌}
use mathlib.Core.List.{List}
use lib.Ieee.{Float}
use Rattle.words.specs.Loop.{turns, loop, pick}
use Rattle.words.proofs.Branch.{yes, pick_yes, pick_no}
use Rattle.words.proofs.Loops.{Ran, turned, ended, stopped}
use Rattle.matrix.specs.Answers.{Decomposed, decomposition}
use Rattle.matrix.specs.Complex.{parts}
use Rattle.matrix.specs.Lu.{lu_decomp_of}
use Rattle.matrix.specs.LuComplex.{lu_decomp_complex_of}
use Rattle.state.specs.declared.run.Run.{Run}
use Rattle.state.specs.Memory.{Factors, factors}
use Rattle.solve_blocks.specs.declared.step.Step.{Step}
use Rattle.solve_blocks.specs.declared.step.Step.TheVariants as step
use Rattle.solve_blocks.specs.Setters.{in_counts, one_lu}
use Rattle.solve_blocks.specs.Events.{Logged, quiet}
use Rattle.solve_blocks.specs.Entries.{Three, three}
use Rattle.solve_blocks.specs.Matrices.{is_err, column_of, stopping, Tried, tried, built_of, complex_tried_of}
use Rattle.solve_blocks.specs.Matrices.{real_tried_of, tried_of, passes_on, run_of, pass_at, passes_of}
use Rattle.std.specs.Prelude.{Some}
use Rattle.state.specs.declared.run.Singular.TheVariants.{Real, Complex}

-- ---- the decompositions

module _ (r : Run) (f : Factors) (answer : Decomposed) (ip : List ℕ) {s : Run} (counted : s ≡ in_counts one_lu r)
    (b : Bool) (heard : b ≡ is_err answer) where
  module _ (re im : List Float) (worked : decomposition answer (parts re im) ip
      ≡ lu_decomp_complex_of r.shape.n (parts f.e2r f.e2i) f.ip2) where
    pub complex-failed : {t : Step} → b ≡ true → t ≡ stopping (Some (Complex (column_of answer))) s
        → tried t (factors f.e1 re im f.ip1 ip) ≡ (complex_tried_of r f).core
    unfolding complex_tried_of pick
    complex-failed e u = rw (u, counted, ← worked, ← heard, e)

    pub complex-done : b ≡ false → tried (step.Attempt s) (factors f.e1 re im f.ip1 ip) ≡ (complex_tried_of r f).core
    unfolding complex_tried_of pick
    complex-done e = rw (counted, ← worked, ← heard, e)

  module _ (a : List Float) (worked : decomposition answer a ip ≡ lu_decomp_of r.shape.n f.e1 f.ip1) where
    pub real-failed : {t : Step} → b ≡ true → t ≡ stopping (Some (Real (column_of answer))) s
        → tried t (factors a f.e2r f.e2i ip f.ip2) ≡ (real_tried_of r f).core
    unfolding real_tried_of pick
    real-failed e u = rw (u, counted, ← worked, ← heard, e)

    pub real-done : {t : Tried} → b ≡ false
        → t ≡ (complex_tried_of s (factors a f.e2r f.e2i ip f.ip2)).core → t ≡ (real_tried_of r f).core
    unfolding real_tried_of pick
    real-done e u = rw (u, counted, ← worked, ← heard, e)

-- ---- a pass

module _ (r : Run) (mass jac : List Float) (f : Factors) where
  pub pass-made : {t : Tried} (e1 e2r e2i : List Float) → r.control.call_decomp ≡ true
      → three e1 e2r e2i
      ≡ built_of r.settings.mass r.shape.n mass jac r.numbers.h (three f.e1 f.e2r f.e2i)
      → t ≡ (real_tried_of r (factors e1 e2r e2i f.ip1 f.ip2)).core
      → t ≡ (tried_of r mass jac f).core
  unfolding tried_of
  pass-made e1 e2r e2i made b u =
      u ∙ ap (λ (e : Three). (real_tried_of r (factors e.one e.two e.three f.ip1 f.ip2)).core) b
      ∙ ap (λ (l : Logged Tried). l.core) (sym (pick_yes _ _ made))

  pub pass_kept : r.control.call_decomp ≡ false → tried (step.Attempt r) f ≡ (tried_of r mass jac f).core
  unfolding tried_of
  pass_kept kept = ap (λ (l : Logged Tried). l.core) (sym (pick_no _ _ kept))

-- ---- the passes

-- the core of a loop over logged states is the loop over their cores
module _ {A : Type 0} (f : ℕ → Logged A → Logged A) (g : ℕ → A → A)
    (same : (k : ℕ) (l : Logged A) → (f k l).core ≡ g k l.core) where
  core-turns : (lo k : ℕ) (l : Logged A) → (turns f lo k l).core ≡ turns g lo k l.core
  core-turns lo zero l = refl
  core-turns lo (suc k) l = same (lo + k) (turns f lo k l) ∙ ap (g (lo + k)) (core-turns lo k l)

  pub core-loop : (lo hi : ℕ) (l : Logged A) → (loop f lo hi l).core ≡ loop g lo hi l.core
  unfolding loop
  core-loop lo hi l = core-turns lo (hi - lo) l

-- one pass where another is wanted, without its events
unfoldable pub passed : List Float → List Float → ℕ → Tried → Tried
passed mass jac k t = pick (passes_on t.step) (tried_of (run_of t.step) mass jac t.factors).core t

core-pick : {A : Type 0} (b : Bool) (x y : Logged A) → (pick b x y).core ≡ pick b x.core y.core
unfolding pick
core-pick true x y = refl
core-pick false x y = refl

module _ (mass jac : List Float) where
  pub passes-core : (s : Step) (f : Factors) → (passes_of s mass jac f).core ≡ loop (passed mass jac) 0 6 (tried s f)
  unfolding passes_of pass_at passed
  passes-core s f =
      core-loop (pass_at mass jac) (passed mass jac)
      (λ k l. core-pick (passes_on l.core.step) _ _) 0 6 (quiet (tried s f))

  module _ {P : Tried → Type 0} {i : ℕ} {s₀ s : Step} {f₀ f : Factors}
      (ran : Ran (passed mass jac) P 0 6 i (tried s₀ f₀) (tried s f)) where
    pub passes-turned : {r : Run} {t : Tried} → i < 6 → passes_on s ≡ true → r ≡ run_of s → P t
        → t ≡ (tried_of r mass jac f).core
        → Ran (passed mass jac) P 0 6 (i + 1) (tried s₀ f₀) t
    unfolding passed
    passes-turned h on same p u =
        turned ran h p (yes (passes_on s) _ _ on (u ∙ ap (λ (r : Run). (tried_of r mass jac f).core) same))

    pub passes-stopped : i < 6 → passes_on s ≡ false → tried s f ≡ (passes_of s₀ mass jac f₀).core
    unfolding passed
    passes-stopped h off = stopped ran h (sym (pick_no _ _ off)) (λ j. pick_no _ _ off) ∙ sym (passes-core s₀ f₀)

    pub passes-ended : 6 ≤ i → tried s f ≡ (passes_of s₀ mass jac f₀).core
    passes-ended h = ended ran h ∙ sym (passes-core s₀ f₀)
