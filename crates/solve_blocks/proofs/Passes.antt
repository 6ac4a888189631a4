-- What the passes through the matrices keep: the run's shape; of the three matrices what stores keep, and of the pivots
-- what a store of a row keeps.
--     Shaped h s      the run of a step, also of one that has asked, has the shape h
use Prim.Native.Nat.{ℕ, ◌<◌}
use mathlib.Core.Path.{◌≡◌, ap}
use mathlib.Core.List.{List}
use native.Mathlib.Omega.{arith}
use lib.ListN.{set}
use lib.Ieee.{Float}
use Rattle.words.specs.Grid.{put}
use Rattle.words.proofs.Branch.{pick_all}
use Rattle.matrix.specs.Complex.{parts}
use Rattle.state.specs.declared.settings.Mass.{Mass}
use Rattle.state.specs.declared.run.Run.{Run}
use Rattle.state.specs.declared.run.Shape.{Shape}
use Rattle.state.specs.Memory.{Factors}
use Rattle.solve_blocks.specs.declared.step.Step.{Step}
use Rattle.solve_blocks.specs.Events.{Logged, quiet}
use Rattle.solve_blocks.specs.Entries.{Three}
use Rattle.solve_blocks.specs.Matrices.{failed_of, build_at, build_row, built_of, Tried, tried}
use Rattle.solve_blocks.specs.Matrices.{complex_tried_of, real_tried_of, tried_of, run_of, pass_at, passes_of}
use Rattle.solve_blocks.proofs.Decompositions.{loop-keeps, lu-kept, lu-complex-kept}

abbrev pub Shaped : Shape → Step → Type 0
Shaped h s = (run_of s).shape ≡ h

pub failed-shaped : (h : Shape) (r : Run) → r.shape ≡ h → Shaped h (failed_of r)
unfolding failed_of
failed-shaped h r e = pick_all (Shaped h) _ _ _ (λ _. e) (λ _. e)

-- P of each of three lists
abbrev pub Each : (List Float → Type 0) → Three → Type 0
Each P z = P z.one × P z.two × P z.three

module _ (P : List Float → Type 0) (set-kept : (a : List Float) (i : ℕ) (x : Float) → P a → P (set a i x)) where
  pub built-kept : (mode : Mass) (n : ℕ) (mass jac : List Float) (h : Float) (e : Three) → Each P e
      → Each P (built_of mode n mass jac h e)
  unfolding built_of build_row build_at put
  built-kept mode n mass jac h =
      loop-keeps (Each P) (build_row mode n mass jac _ _ _)
      (λ r. loop-keeps (Each P) (build_at mode n mass jac _ _ _ r)
      (λ c z p. (set-kept _ _ _ p.0, set-kept _ _ _ p.1, set-kept _ _ _ p.2)) 0 n)
      0 n

  module _ (h : Shape) (Q : List ℕ → Type 0)
      (row_kept : (ip : List ℕ) (k m : ℕ) → m < h.n → Q ip → Q (set ip k m)) where
    abbrev pub Held : Factors → Type 0
    Held f = P f.e1 × P f.e2r × P f.e2i × Q f.ip1 × Q f.ip2

    abbrev pub Kept : Logged Tried → Type 0
    Kept l = Shaped h l.core.step × Held l.core.factors

    -- a row of the run's own order
    own-kept : (r : Run) → r.shape ≡ h → (ip : List ℕ) (k m : ℕ) → m < r.shape.n → Q ip → Q (set ip k m)
    own-kept r e ip k m l q = row_kept ip k m (omega (arith, ap (λ (s : Shape). s.n) e)) q

    complex-kept : (r : Run) (f : Factors) → r.shape ≡ h → Held f → Kept (complex_tried_of r f)
    unfolding complex_tried_of
    complex-kept r f e p =
        let d = lu-complex-kept r.shape.n P set-kept Q (own-kept r e)
        (parts f.e2r f.e2i) f.ip2 (p.1, p.2) p.4 in
        pick_all Kept _ _ _ (λ _. (failed-shaped h _ e, (p.0, d.0.0, d.0.1, p.3, d.1)))
        (λ _. (e, (p.0, d.0.0, d.0.1, p.3, d.1)))

    real-kept : (r : Run) (f : Factors) → r.shape ≡ h → Held f → Kept (real_tried_of r f)
    unfolding real_tried_of
    real-kept r f e p =
        let d = lu-kept r.shape.n P set-kept Q (own-kept r e) f.e1 f.ip1 p.0 p.3 in
        pick_all Kept _ _ _ (λ _. (failed-shaped h _ e, (d.0, p.1, p.2, d.1, p.4)))
        (λ _. complex-kept _ _ e (d.0, p.1, p.2, d.1, p.4))

    module _ (mass jac : List Float) where
      tried-kept : (r : Run) (f : Factors) → r.shape ≡ h → Held f → Kept (tried_of r mass jac f)
      unfolding tried_of
      tried-kept r f e p =
          let b = built-kept r.settings.mass r.shape.n mass jac r.numbers.h _ (p.0, p.1, p.2) in
          pick_all Kept _ _ _ (λ _. real-kept r _ e (b.0, b.1, b.2, p.3, p.4)) (λ _. (e, p))

      pub pass_kept : (k : ℕ) (l : Logged Tried) → Kept l → Kept (pass_at mass jac k l)
      unfolding pass_at
      pass_kept k l p =
          pick_all Kept _ _ _ (λ _. tried-kept (run_of l.core.step) l.core.factors p.0 p.1) (λ _. p)

      pub passes_kept : (s : Step) (f : Factors) → Shaped h s → Held f → Kept (passes_of s mass jac f)
      unfolding passes_of
      passes_kept s f e p = loop-keeps Kept (pass_at mass jac) pass_kept 0 6 (quiet (tried s f)) (e, p)
