-- An advance makes up to six passes through the matrices, `solve` makes each by itself: six are enough, so a pass more
-- before them changes nothing (pass-first).
use Prim.Native.Nat.{ℕ, ◌+◌}
use mathlib.Core.Bool.{Bool, true, false, true≢false}
use mathlib.Core.Path.{◌≡◌, refl, sym, ap, ◌∙◌}
use mathlib.Core.List.{List}
use native.Mathlib.Omega.{arith}
use lib.Ieee.{Float}
use Rattle.words.specs.Loop.{loop}
use Rattle.words.proofs.Branch.{pick_all, pick_yes, pick_no}
use Rattle.state.specs.Memory.{Memory}
use Rattle.state.specs.MemorySetters.{set_factors}
use Rattle.solve_blocks.specs.declared.step.Step.{Step}
use Rattle.solve_blocks.specs.declared.step.Step.TheVariants as step
use Rattle.solve_blocks.specs.Matrices.{Tried, tried, tried_of, passes_on, run_of, passes_of}
use Rattle.solve_blocks.specs.Advance.{stepped, called_of}
use Rattle.solve_blocks.proofs.PassLaws.{passed, passes-core}
use Rattle.solve_whole.proofs.RunSound.{Sound, Out, Past, tried-past}
use Rattle.solve_whole.proofs.FollowsTalk.{finish}

pub never : (b : Bool) → (b ≡ true → ⊥) → b ≡ false
never true h = absurd (h refl)
never false h = refl

pub always : (b : Bool) → (b ≡ false → ⊥) → b ≡ true
always true h = refl
always false h = absurd (h refl)

-- ---- six passes

no-pass : {A : Type 0} → false ≡ true → A
no-pass e = absurd (true≢false (sym e))

-- a step that passes on has met i failures, and fewer than six
abbrev Passing : ℕ → Step → Type 0
Passing i s = passes_on s ≡ true → Sound i (run_of s)

past-passing : (i : ℕ) (s : Step) → Past i s → Passing (i + 1) s
unfolding Out
past-passing i (step.Asked c) p e = no-pass e
past-passing i (step.Main r) p e = p
past-passing i (step.Matrices r) p e = absurd p
past-passing i (step.Attempt r) p e = no-pass e

module _ (mass jac : List Float) where
  turn : (i : ℕ) (t : Tried) → Passing i t.step → Passing (i + 1) (passed mass jac i t).step
  unfolding passed
  turn i t p =
      pick_all (λ (u : Tried). Passing (i + 1) u.step) (passes_on t.step) _ _
      (λ on. past-passing i _ (tried-past i (run_of t.step) (p on) mass jac t.factors))
      (λ off on. no-pass (sym off ∙ on))

  six : (t : Tried) → Passing 0 t.step → passes_on (loop (passed mass jac) 0 6 t).step ≡ false
  unfolding loop
  six t p = never _ (λ on. omega (arith, turn 5 _ (turn 4 _ (turn 3 _ (turn 2 _ (turn 1 _ (turn 0 t p))))) on))

  -- what a seventh pass would leave
  still : (t : Tried) → passes_on t.step ≡ false → passed mass jac 6 t ≡ t
  unfolding passed
  still t off = pick_no _ _ off

  -- the first pass taken out of seven
  first_out : (t : Tried)
      → passed mass jac 6 (loop (passed mass jac) 0 6 t) ≡ loop (passed mass jac) 0 6 (passed mass jac 0 t)
  unfolding loop passed
  first_out t = refl

  one-pass : (t : Tried) → Passing 0 t.step
      → loop (passed mass jac) 0 6 t ≡ loop (passed mass jac) 0 6 (passed mass jac 0 t)
  one-pass t p = sym (still _ (six t p)) ∙ first_out t

module _ (s : Step) (m : Memory) (on : passes_on s ≡ true) (sound : Sound 0 (run_of s)) where
  abbrev tried_at : Tried
  tried_at = (tried_of (run_of s) m.given.mass m.given.jac m.factors).core

  made : passed m.given.mass m.given.jac 0 (tried s m.factors) ≡ tried_at
  unfolding passed
  made = pick_yes _ _ on

  passes_same : (passes_of s m.given.mass m.given.jac m.factors).core
      ≡ (passes_of tried_at.step m.given.mass m.given.jac tried_at.factors).core
  passes_same =
      passes-core m.given.mass m.given.jac s m.factors
      ∙ one-pass m.given.mass m.given.jac (tried s m.factors) (λ _. sound)
      ∙ ap (loop (passed m.given.mass m.given.jac) 0 6) made
      ∙ sym (passes-core m.given.mass m.given.jac tried_at.step tried_at.factors)

  pub pass-first : finish (stepped s m) ≡ finish (stepped tried_at.step (set_factors tried_at.factors m))
  pass-first = ap (λ (t : Tried). (called_of t.step (set_factors t.factors m)).core) passes_same
