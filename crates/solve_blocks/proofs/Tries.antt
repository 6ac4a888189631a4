-- What a pass through the matrices meets: an error exactly where the elimination of a matrix that it built stops at a
-- column, which is a 17 of that try.
--     error-column, no-error          an answered stop is an error exactly at a column, which the answer tells; its
--                                     number is 17
--     real-answers, complex-answers   what a try of a pass answers: no refusal, so an error is `Singular`
--     pass-total                      total is as it was: a pass begins no attempt
use Prim.Native.Nat.{ℕ, ◌*◌, ◌≤◌}
use mathlib.Core.Path.{◌≡◌, refl, sym, ap, ◌∙◌, subst}
use mathlib.Core.Bool.{true, false, true≢false}
use mathlib.Core.List.{List}
use lib.Ieee.{Float}
use borrow.Author.Tests.{le-leb, eq-eqb}
use Rattle.words.specs.Loop.{pick}
use Rattle.words.proofs.Branch.{pick_all}
use Rattle.matrix.specs.Answers.{Stop, nowhere, column, Decomposed, stop_answer, decomposed_number}
use Rattle.matrix.specs.Complex.{Parts, parts}
use Rattle.matrix.specs.Elimination.{worked, answered}
use Rattle.matrix.specs.Lu.{real, lu_decomp_of}
use Rattle.matrix.specs.LuComplex.{complex_kind, lu_decomp_complex_of}
use Rattle.state.specs.declared.run.Run.{Run}
use Rattle.state.specs.Memory.{Factors}
use Rattle.solve_blocks.specs.declared.step.Step.{Step}
use Rattle.solve_blocks.specs.Setters.{◌▸◌, in_counts, in_notes, one_lu, set_latest}
use Rattle.solve_blocks.specs.Entries.{Three, three}
use Rattle.solve_blocks.specs.Events.{Logged}
use Rattle.solve_blocks.specs.Matrices.{failed_of, is_err, column_of, built_of, Tried}
use Rattle.solve_blocks.specs.Matrices.{run_of, complex_tried_of, real_tried_of, tried_of}
use Rattle.solve_blocks.specs.Needs.{FactorsLong}
use Rattle.solve_blocks.proofs.Decompositions.{Long, set_long}
use Rattle.solve_blocks.proofs.Passes.{Each, built-kept}

stop-column : (s : Stop) → is_err (stop_answer s) ≡ true
    → (s ≡ column (column_of (stop_answer s))) × (decomposed_number (stop_answer s) ≡ 17)
stop-column nowhere e = absurd (true≢false (sym e))
stop-column (column k) e = (refl, refl)

stop-nowhere : (s : Stop) → is_err (stop_answer s) ≡ false → s ≡ nowhere
stop-nowhere nowhere e = refl
stop-nowhere (column k) e = absurd (true≢false e)

module _ (d : Decomposed) (s : Stop) (answers : d ≡ stop_answer s) where
  pub error-column : is_err d ≡ true → (s ≡ column (column_of d)) × (decomposed_number d ≡ 17)
  error-column e =
      subst (λ (d : Decomposed). (s ≡ column (column_of d)) × (decomposed_number d ≡ 17)) (sym answers)
      (stop-column s (sym (ap is_err answers) ∙ e))

  pub no-error : is_err d ≡ false → s ≡ nowhere
  no-error e = stop-nowhere s (sym (ap is_err answers) ∙ e)

-- ---- a try: an order and lengths that fit are not refused

module _ (n : ℕ) (ip : List ℕ) (low : 1 ≤ n) (high : n ≤ 32) (rows : Long n ip) where
  real-fits : (a : List Float) → Long (n * n) a → (lu_decomp_of n a ip).answer ≡ stop_answer (worked real n a ip).stop
  unfolding lu_decomp_of answered pick
  real-fits a l = rw (le-leb 1 n low, le-leb n 32 high, eq-eqb _ _ l, eq-eqb _ _ rows)

  complex-fits : (a : Parts) → Long (n * n) a.re → Long (n * n) a.im
      → (lu_decomp_complex_of n a ip).answer ≡ stop_answer (worked complex_kind n a ip).stop
  unfolding lu_decomp_complex_of answered pick
  complex-fits a l m = rw (le-leb 1 n low, le-leb n 32 high, eq-eqb _ _ l, eq-eqb _ _ m, eq-eqb _ _ rows)

-- ---- a pass

module _ (r : Run) (mass jac : List Float) (f : Factors) where
  -- E1, and the two parts of E2, as the pass builds them; and where their eliminations stop
  abbrev pub built : Three
  built = built_of r.settings.mass r.shape.n mass jac r.numbers.h (three f.e1 f.e2r f.e2i)

  abbrev pub e1_stop : Stop
  e1_stop = (worked real r.shape.n built.one f.ip1).stop

  abbrev pub e2_stop : Stop
  e2_stop = (worked complex_kind r.shape.n (parts built.two built.three) f.ip2).stop

  -- lengths that fit n say also that n is at most 32
  module _ (low : 1 ≤ r.shape.n) (long : FactorsLong r.shape.n f) where
    built-long : Each (Long (r.shape.n * r.shape.n)) built
    built-long =
        built-kept (Long _) (λ a i x q. set_long a i x q) r.settings.mass r.shape.n mass jac r.numbers.h _
        (long.e1.full, long.e2r.full, long.e2i.full)

    pub real-answers : (lu_decomp_of r.shape.n built.one f.ip1).answer ≡ stop_answer e1_stop
    real-answers =
        real-fits r.shape.n f.ip1 low long.e1.small long.ip1 built.one built-long.0

    pub complex-answers :
        (lu_decomp_complex_of r.shape.n (parts built.two built.three) f.ip2).answer ≡ stop_answer e2_stop
    complex-answers =
        complex-fits r.shape.n f.ip2 low long.e1.small long.ip2 (parts built.two built.three)
        built-long.1 built-long.2

-- ---- a pass begins no attempt, singular or not

failed-total : (r : Run) → (run_of (failed_of r)).counts.total ≡ r.counts.total
unfolding failed_of
failed-total r = pick_all (λ (s : Step). (run_of s).counts.total ≡ r.counts.total) _ _ _ (λ _. refl) (λ _. refl)

module _ (r : Run) where
  abbrev Total : Logged Tried → Type 0
  Total l = (run_of l.core.step).counts.total ≡ r.counts.total

  pub pass-total : (mass jac : List Float) (f : Factors) → Total (tried_of r mass jac f)
  unfolding tried_of real_tried_of complex_tried_of
  pass-total mass jac f =
      pick_all Total _ _ _
      (λ _. pick_all Total _ _ _ (λ _. failed-total (r ▸ in_counts one_lu ▸ in_notes (set_latest _)))
      (λ _. pick_all Total _ _ _
      (λ _. failed-total (r ▸ in_counts one_lu ▸ in_counts one_lu ▸ in_notes (set_latest _))) (λ _. refl)))
      (λ _. refl)
