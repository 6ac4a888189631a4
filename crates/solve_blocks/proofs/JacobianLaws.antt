-- The loop of `copy` in src/jacobian.rt, the ways out of `ask_jacobian` and `column`, and that a run which fits
-- still fits past a column.
--     Copied xs i ys                            ys is as long as xs, and its first i entries are those of xs
--     asked_by                                  the Jacobian is asked of who makes it
--     column-first, column-next, column-last    the derivative at the point, of a column, and of the last column
use Prim.Native.Nat.{ℕ, zero, suc, ◌+◌, ◌≤◌, ◌<◌}
use mathlib.Core.Path.{◌≡◌, refl, sym, ap, ◌∙◌}
use mathlib.Core.List.{List}
use native.Mathlib.Numerals.{add-one}
use native.Mathlib.Omega.{arith}
use lib.ListN.{length, take, set, length-set}
use lib.Seq.{take_all, take-suc, take-suc-set}
use lib.Ieee.{Float, nan}
use borrow.Author.Tests.{lt-ltb, le-ltb}
use Rattle.words.specs.Words.{◌!◌}
use Rattle.words.specs.Loop.{loop}
use Rattle.words.proofs.Branch.{yes, no, pick_all}
use Rattle.state.specs.declared.settings.Source.{Source}
use Rattle.state.specs.declared.run.Run.{Run}
use Rattle.state.specs.Memory.{Differences}
use Rattle.solve_blocks.specs.declared.step.Step.TheVariants as step
use Rattle.solve_blocks.specs.Jacobian.{Asking, ask_jacobian_by, Columned, columned}
use Rattle.solve_blocks.specs.Jacobian.{perturbation, ask_column_of, column_at, column_of}
use Rattle.solve_blocks.specs.Needs.{Fit, StepFit}

-- ---- a copy

pub record Copied (xs : List Float) (i : ℕ) (ys : List Float) : Type 0 where
  pub within : i ≤ length xs
  pub long : length ys ≡ length xs
  pub is : take i ys ≡ take i xs

module _ {xs ys : List Float} where
  pub copying : length ys ≡ length xs → Copied xs 0 ys
  copying e = record { within = omega arith; long = e; is = refl }

  pub copied_next : {i : ℕ} → Copied xs i ys → i < length xs → Copied xs (i + 1) (set ys i (xs ! i))
  copied_next {i} c l =
      let m : i < length ys = omega (arith, c.long) in
      record {
        within = omega arith;
        long = length-set ys i (xs ! i) ∙ c.long;
        is = rw (add-one, take-suc-set ys i (xs ! i), take-suc xs i nan, c.is);
      }

  pub copied : {i : ℕ} → Copied xs i ys → length xs ≤ i → ys ≡ xs
  copied {i} c l = sym (take_all i ys (omega (arith, c.long))) ∙ c.is ∙ take_all i xs l

-- ---- who makes the Jacobian

pub asked_by : (r : Run) (y : List Float) (d : Differences) {o : Asking} {s t : Source} → s ≡ t
    → o ≡ ask_jacobian_by t r y d → o ≡ ask_jacobian_by s r y d
asked_by r y d e q = q ∙ ap (λ (s : Source). ask_jacobian_by s r y d) (sym e)

-- ---- a column

module _ (r : Run) (y yp fp fo jac : List Float) where
  pub column-first : {c : ℕ} {o : Columned} → c ≡ 0 → o ≡ ask_column_of r 0 y yp jac → o ≡ column_of c r y yp fp fo jac
  unfolding column_of
  column-first e q = rw e q

  module _ (col : ℕ) {c : ℕ} {p : Float} {filled : List Float} {o : Columned} (e : c ≡ col + 1)
      (f : p ≡ perturbation (y ! col))
      (g : filled ≡ loop (column_at r.shape.n col p fp fo) 0 r.shape.n jac) where
    pub column-next : c < r.shape.n → o ≡ ask_column_of r c y (set yp col (y ! col)) filled
        → o ≡ column_of c r y yp fp fo jac
    unfolding column_of
    column-next l q = rw (e, add-one) (yes _ _ _ (lt-ltb (col + 1) r.shape.n (omega arith)) (q ∙ rw (e, g, f)))

    pub column-last : r.shape.n ≤ c → o ≡ columned (step.Matrices r) (set yp col (y ! col)) filled
        → o ≡ column_of c r y yp fp fo jac
    unfolding column_of
    column-last l q = rw (e, add-one) (no _ _ _ (le-ltb (col + 1) r.shape.n (omega arith)) (q ∙ rw (g, f)))

pub column-fit : {k n : ℕ} {r : Run} (c : ℕ) (y yp fp fo jac : List Float) → Fit k n r
    → StepFit k n (column_of c r y yp fp fo jac).step
unfolding column_of ask_column_of StepFit
column-fit zero y yp fp fo jac t = tt
column-fit {k} {n} (suc col) y yp fp fo jac t =
    pick_all (λ (o : Columned). StepFit k n o.step) _ _ _ (λ _. tt) (λ _. t)
