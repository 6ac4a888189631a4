-- The laws of the places: what a store at a place does to the run that the arrays hold.
--     words-at, doubles-at    an array is the list of its entries, so that a store computes, and with it the run
--     resized                 arrays of the same lengths
--     stage-back              a stage is read as it was written
--     singular-back           and so is the latest singular decomposition
--     strides-back            and so are the strides
--     flag-back, unflagged    a flag is read as it was written; denied twice it is itself
--     flag-set, flag-clear    a flag that was tested
--     run-back                the run of a step is the run
--     at-first-report, ..     a stage by its number
use Prim.Native.Nat.{ℕ, zero, suc, ◌+◌}
use mathlib.Core.Bool.{Bool, true, false, not}
use mathlib.Core.Path.{◌≡◌, refl, sym, ap, ◌∙◌}
use mathlib.Core.List.{List, [], ◌∷◌}
use native.Mathlib.Numerals.{add-one}
use native.Mathlib.Omega.{arith}
use lib.Ieee.{Float, nan}
use lib.ListN.{length, get_or, drop}
use lib.Seq.{drop-cons, drop-length}
use borrow.Author.Tests.{eq-eqb, ne_eqb}
use mir.Val.{bool_byte}
use Rattle.words.specs.Loop.{pick}
use Rattle.state.specs.declared.run.Run.{Run}
use Rattle.state.specs.declared.run.Stage.{Stage}
use Rattle.state.specs.declared.run.Stage.TheVariants as stage
use Rattle.state.specs.declared.run.Status.TheVariants as status
use Rattle.state.specs.Numbers.{singular_kind, singular_column, smallest_stride, largest_stride}
use Rattle.solve_blocks.specs.Matrices.{run_of}
use Rattle.radau_core.specs.declared.step.Step.{Step}
use Rattle.radau_core.specs.declared.step.Step.TheVariants.{Asked, Main, Matrices, Attempt}
use Rattle.radau_core.specs.Choices.{flag_of, status_of, stage_of, stage_tag, stage_part}
use Rattle.radau_core.specs.Choices.{singular_of, strides_of, option_tag, option_at}
use Rattle.radau_core.specs.Places.{Sized, step_at}
use Rattle.std.specs.Prelude.{None, Some, Option}
use Rattle.state.specs.declared.run.Singular.{Singular}
use Rattle.state.specs.declared.run.Strides.{Strides}
use Rattle.state.specs.declared.run.Singular.TheVariants.{Real, Complex}

-- ---- an array is the list of its entries

-- k entries from place i on
abbrev pub entries : {A : Type 0} → A → List A → ℕ → ℕ → List A
entries z l i zero = []
entries z l i (suc k) = get_or l i z ∷ entries z l (i + 1) k

from : {A : Type 0} (z : A) (l : List A) (i k : ℕ) → i + k ≡ length l → drop i l ≡ entries z l i k
from z l i zero h = let e : i ≡ length l = omega arith in rw e (drop-length l)
from {A} z l i (suc k) h =
    drop-cons l i z (omega arith)
    ∙ ap (λ (t : List A). get_or l i z ∷ t)
    (ap (λ (j : ℕ). drop j l) (sym (add-one i)) ∙ from z l (i + 1) k (omega arith))

module _ {w : List ℕ} {d : List Float} (sized : Sized w d) where
  pub words-at : w ≡ entries 0 w 0 42
  words-at = from 0 w 0 42 (omega (arith, sized.words))

  pub doubles-at : d ≡ entries nan d 0 31
  doubles-at = from nan d 0 31 (omega (arith, sized.doubles))

  pub resized : {v : List ℕ} {e : List Float} → length v ≡ length w → length e ≡ length d → Sized v e
  resized p q = record { words = p ∙ sized.words; doubles = q ∙ sized.doubles }

-- ---- what is written is read

pub stage-back : (s : Stage) → stage_of (stage_tag s) (stage_part s) ≡ s
unfolding stage_of status_of pick
stage-back stage.FirstDerivative = refl
stage-back stage.FirstReport = refl
stage-back stage.FirstDerivativeAgain = refl
stage-back stage.Jacobian = refl
stage-back (stage.Column c) = refl
stage-back stage.Newton1 = refl
stage-back stage.Newton2 = refl
stage-back stage.Newton3 = refl
stage-back stage.Refinement = refl
stage-back stage.Accepted = refl
stage-back stage.Report = refl
stage-back stage.DerivativeAgain = refl
stage-back (stage.Ended status.Success) = refl
stage-back (stage.Ended status.UserInterrupt) = refl
stage-back (stage.Ended status.NeedLargerNMax) = refl
stage-back (stage.Ended status.StepSizeTooSmall) = refl
stage-back (stage.Ended status.SingularMatrix) = refl

pub singular-back : (s : Option Singular) → singular_of (singular_kind s) (singular_column s) ≡ s
unfolding singular_of pick
singular-back None = refl
singular-back (Some (Real k)) = refl
singular-back (Some (Complex k)) = refl

pub strides-back : (s : Option Strides) → strides_of (option_tag s) (smallest_stride s) (largest_stride s) ≡ s
unfolding strides_of option_at pick
strides-back None = refl
strides-back (Some s) = refl

pub flag-back : (b : Bool) → flag_of (bool_byte b) ≡ b
flag-back true = refl
flag-back false = refl

pub unflagged : (b : Bool) → not (not b) ≡ b
unflagged true = refl
unflagged false = refl

pub run-back : (s : Step) (r : Run) → run_of (step_at s r) ≡ r
run-back (Asked c) r = refl
run-back Main r = refl
run-back Matrices r = refl
run-back Attempt r = refl

-- ---- a flag that was tested

module _ {k : ℕ} where
  pub flag-set : (k ≡ 0 → ⊥) → flag_of k ≡ true
  flag-set h = ap not (ne_eqb k 0 h)

  pub flag-clear : k ≡ 0 → flag_of k ≡ false
  flag-clear h = ap not (eq-eqb k 0 h)

-- ---- a stage by its number

module _ (part : ℕ) {k : ℕ} where
  pub at-first-report : k ≡ 1 → stage_of k part ≡ stage.FirstReport
  unfolding stage_of pick
  at-first-report e = rw e

  pub at-first-derivative-again : k ≡ 2 → stage_of k part ≡ stage.FirstDerivativeAgain
  unfolding stage_of pick
  at-first-derivative-again e = rw e

  pub at-jacobian : k ≡ 3 → stage_of k part ≡ stage.Jacobian
  unfolding stage_of pick
  at-jacobian e = rw e

  pub at-column : k ≡ 4 → stage_of k part ≡ stage.Column part
  unfolding stage_of pick
  at-column e = rw e

  pub at-newton-1 : k ≡ 5 → stage_of k part ≡ stage.Newton1
  unfolding stage_of pick
  at-newton-1 e = rw e

  pub at-newton-2 : k ≡ 6 → stage_of k part ≡ stage.Newton2
  unfolding stage_of pick
  at-newton-2 e = rw e

  pub at-newton-3 : k ≡ 7 → stage_of k part ≡ stage.Newton3
  unfolding stage_of pick
  at-newton-3 e = rw e

  pub at-refinement : k ≡ 8 → stage_of k part ≡ stage.Refinement
  unfolding stage_of pick
  at-refinement e = rw e

  pub at-accepted : k ≡ 9 → stage_of k part ≡ stage.Accepted
  unfolding stage_of pick
  at-accepted e = rw e

  pub at-report : k ≡ 10 → stage_of k part ≡ stage.Report
  unfolding stage_of pick
  at-report e = rw e

  pub at-derivative-again : k ≡ 11 → stage_of k part ≡ stage.DerivativeAgain
  unfolding stage_of pick
  at-derivative-again e = rw e

  pub at_ended : k ≡ 12 → stage_of k part ≡ stage.Ended (status_of part)
  unfolding stage_of pick
  at_ended e = rw e

  -- any other number is that of the first
  pub at-first-derivative : (k ≡ 1 → ⊥) → (k ≡ 2 → ⊥) → (k ≡ 3 → ⊥) → (k ≡ 4 → ⊥) → (k ≡ 5 → ⊥) → (k ≡ 6 → ⊥)
      → (k ≡ 7 → ⊥) → (k ≡ 8 → ⊥) → (k ≡ 9 → ⊥) → (k ≡ 10 → ⊥) → (k ≡ 11 → ⊥) → (k ≡ 12 → ⊥)
      → stage_of k part ≡ stage.FirstDerivative
  unfolding stage_of pick
  at-first-derivative a b c d e f g h i j l m =
      rw (
        ne_eqb k 1 a,
        ne_eqb k 2 b,
        ne_eqb k 3 c,
        ne_eqb k 4 d,
        ne_eqb k 5 e,
        ne_eqb k 6 f,
        ne_eqb k 7 g,
        ne_eqb k 8 h,
        ne_eqb k 9 i,
        ne_eqb k 10 j,
        ne_eqb k 11 l,
        ne_eqb k 12 m,
      )
