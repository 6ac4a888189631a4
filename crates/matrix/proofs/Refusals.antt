-- A refusal writes nothing (01, 'Numbers that refuse'): where a routine answers neither that it is done nor that the
-- matrix is singular, all that was lent is as it was. So a program that has written can't meet its contract with the
-- answer 1, 16 or 18.
use Prim.Native.Nat.{ℕ}
use mathlib.Core.Bool.{Bool, true, false}
use mathlib.Core.Path.{◌≡◌, refl}
use mathlib.Core.List.{List}
use lib.Ieee.{Float}
use Rattle.std.proofs.Common.{Ok, Err}
use Rattle.words.specs.Loop.{pick}
use Rattle.matrix.specs.declared.answers.DecompositionError.TheVariants as undone
use Rattle.matrix.specs.declared.answers.SolveError.TheVariants as unsolved
use Rattle.matrix.specs.Answers.{Stop, nowhere, column, Decomposition}
use Rattle.matrix.specs.Answers.{decomposition, stop_answer, Solution, solution}
use Rattle.matrix.specs.Complex.{Parts}
use Rattle.matrix.specs.Elimination.{Work, worked, answered}
use Rattle.matrix.specs.Substitution.{solved}
use Rattle.matrix.specs.Lu.{real, lu_decomp_of}
use Rattle.matrix.specs.LuComplex.{complex_kind, lu_decomp_complex_of}
use Rattle.matrix.specs.Linear.{real_side, lin_solve_of}
use Rattle.matrix.specs.LinearComplex.{complex_side, lin_solve_complex_of}

module _ {A : Type 0} (a : A) (ip : List ℕ) where
  abbrev pub Kept : Decomposition A → Type 0
  Kept d =
      (d.answer ≡ Ok tt → ⊥) → ((k : ℕ) → d.answer ≡ Err (undone.Singular k) → ⊥)
      → (d.a ≡ a) × (d.ip ≡ ip)

  -- the work itself refuses with 17 alone
  work-kept : (x : A) (jp : List ℕ) (stop : Stop) → Kept (decomposition (stop_answer stop) x jp)
  work-kept x jp nowhere p q = absurd (p refl)
  work-kept x jp (column k) p q = absurd (q k refl)

  decomposition-kept : (ranged fits : Bool) (w : Work A)
      → Kept (pick ranged
      (pick fits (decomposition (stop_answer w.stop) w.a w.ip) (decomposition (Err undone.Length) a ip))
      (decomposition (Err undone.Order) a ip))
  unfolding pick
  decomposition-kept true true w p q = work-kept w.a w.ip w.stop p q
  decomposition-kept true false w p q = (refl, refl)
  decomposition-kept false fits w p q = (refl, refl)

module _ {B : Type 0} (b : B) where
  abbrev pub KeptSide : Solution B → Type 0
  KeptSide s = (s.answer ≡ Ok tt → ⊥) → s.b ≡ b

  solution-kept : (ranged fits strays : Bool) (x : B)
      → KeptSide (pick ranged (pick fits (pick strays (solution (Err unsolved.Pivot) b) (solution (Ok tt) x))
      (solution (Err unsolved.Length) b))
      (solution (Err unsolved.Order) b))
  unfolding pick
  solution-kept true true true x p = refl
  solution-kept true true false x p = absurd (p refl)
  solution-kept true false strays x p = refl
  solution-kept false fits strays x p = refl

module _ (n : ℕ) (ip : List ℕ) where
  pub lu-decomp-kept-proof : (a : List Float) → Kept a ip (lu_decomp_of n a ip)
  unfolding lu_decomp_of answered
  lu-decomp-kept-proof a = decomposition-kept a ip _ _ (worked real n a ip)

  pub lu-decomp-complex-kept-proof : (a : Parts) → Kept a ip (lu_decomp_complex_of n a ip)
  unfolding lu_decomp_complex_of answered
  lu-decomp-complex-kept-proof a = decomposition-kept a ip _ _ (worked complex_kind n a ip)

  pub lin-solve-kept-proof : (a b : List Float) → KeptSide b (lin_solve_of n a b ip)
  unfolding lin_solve_of
  lin-solve-kept-proof a b = solution-kept b _ _ _ (solved real_side a n ip b)

  pub lin-solve-complex-kept-proof : (a b : Parts) → KeptSide b (lin_solve_complex_of n a b ip)
  unfolding lin_solve_complex_of
  lin-solve-complex-kept-proof a b = solution-kept b _ _ _ (solved complex_side a n ip b)
