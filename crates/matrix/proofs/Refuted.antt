-- Wrong readings of lu.rs and of 01's refusals, each as a routine that takes it, and each refuted: at a matrix of order
-- 2 it gives what the Rust or 01 doesn't.
--     not-unnegated           multipliers stored as they are, not their negatives
--     not-last-of-largest     the last of the largest pivots, not the first
--     not-one-way-swap        a row that is to go up put where it came from, so that the other is lost
--     not-first-diagonal      the first diagonal entry tested at the end, not the last
--     not-from-one            the column of a zero pivot counted from 1, not from 0 (02, [3])
--     not-always-first        the first column told of every zero pivot
--     not-imaginary-sign      the real part of an imaginary-only product added, not taken away
--     not-tested-late         pivots tested when the right side is written already
use Prim.Native.Nat.{ℕ, ◌+◌, ◌-◌}
use mathlib.Core.Bool.{Bool, true, false, true≢false}
use mathlib.Core.Path.{◌≡◌, ap, sym}
use mathlib.Core.List.{List, [], ◌∷◌}
use lib.Dec.{eqb}
use lib.ListN.{get_or, set}
use lib.Ieee.{Float, add, sub, mul, div, neg, le, lt, eq, ne, of_bits}
use Rattle.std.proofs.Common.{Ok, Err}
use Rattle.words.specs.Words.{double, ◌⊗◌, ◌!◌}
use Rattle.words.specs.Loop.{loop, pick}
use Rattle.words.specs.Grid.{at, put}
use Rattle.scalar.specs.Order.{abs_of}
use Rattle.state.specs.Pivots.{stray_at, stray}
use Rattle.matrix.specs.declared.answers.DecompositionError.TheVariants as undone
use Rattle.matrix.specs.declared.answers.SolveError.TheVariants as unsolved
use Rattle.matrix.specs.declared.complex.Complex.{Complex}
use Rattle.matrix.specs.Answers.{nowhere, column, Decomposed, Decomposition, decomposition, decomposed_number}
use Rattle.matrix.specs.Answers.{Solution, solution}
use Rattle.matrix.specs.Complex.{complex, Parts, parts, at_complex, put_complex, size_complex, negated_complex}
use Rattle.matrix.specs.Complex.{plus_complex, times_complex, square_complex, reciprocal_complex}
use Rattle.matrix.specs.Elimination.{Kind, Best, best, Work, work, goes_on, better_at, pivot_row}
use Rattle.matrix.specs.Elimination.{swapped, scaled_at, column_at, eliminated, pass_with}
use Rattle.matrix.specs.Elimination.{passed, pass_at, last_tested, single, worked, answered}
use Rattle.matrix.specs.Lu.{update_at, updated, reciprocal, multiplier, is_zero, real, lu_decomp_of}
use Rattle.matrix.specs.LuComplex.{added_complex, real_at, imaginary_at, general_at, updated_complex}
use Rattle.matrix.specs.LuComplex.{multiplier_complex, is_zero_complex, lu_decomp_complex_of}
use Rattle.matrix.specs.Substitution.{exchanged, forward_at, back_at, substituted, solved}
use Rattle.matrix.specs.Linear.{divided, add_at, forward, take_at, back, real_side, lin_solve_of}
use Rattle.matrix.proofs.Examples.{none, one, two, four, minus_one}

-- what a routine is, and what the contract asks of it
abbrev Routine : Type 0 → Type 0
Routine A = ℕ → A → List ℕ → Decomposition A

abbrev pub Meets : Routine (List Float) → Type 0
Meets f = (n : ℕ) (a : List Float) (ip : List ℕ) → f n a ip ≡ lu_decomp_of n a ip

abbrev pub MeetsComplex : Routine Parts → Type 0
MeetsComplex f = (n : ℕ) (a : Parts) (ip : List ℕ) → f n a ip ≡ lu_decomp_complex_of n a ip

-- whether the matrix has a positive entry in the lower left, the first pivot is 0, and nothing is refused
abbrev lower_positive : Decomposition (List Float) → Bool
lower_positive d = lt (double 0) (at d.a 2 1 0)

abbrev first_stays : Decomposition (List Float) → Bool
first_stays d = eqb (get_or d.ip 0 7) 0

abbrev is_done : {A : Type 0} → Decomposition A → Bool
is_done d = eqb (decomposed_number d.answer) 0

-- ---- multipliers as they are (lu.rs:97)

abbrev unnegated_kind : Kind (List Float) Float
unnegated_kind =
    record {
      at = at;
      put = put;
      size = abs_of;
      is_zero = is_zero;
      reciprocal = reciprocal;
      multiplier = λ x t. x ⊗ t;
      updated = updated;
    }

abbrev pub unnegated : Routine (List Float)
unnegated n a ip = answered unnegated_kind n (worked unnegated_kind n a ip)

-- 1,2;4,4 becomes 4,4;-0.25,1
pub not-unnegated : Meets unnegated → ⊥
unfolding loop pick at put abs_of better_at pivot_row swapped scaled_at column_at
    eliminated pass_with passed pass_at last_tested single worked answered update_at
    updated reciprocal multiplier is_zero lu_decomp_of add mul div neg lt eq ne of_bits
not-unnegated meets = true≢false (ap lower_positive (meets 2 (one ∷ two ∷ four ∷ four ∷ []) (7 ∷ 7 ∷ [])))

-- ---- the last of the largest (lu.rs:72)

module _ (n : ℕ) where
  abbrev last_better_at : List Float → ℕ → ℕ → Best → Best
  last_better_at a k i b = pick (le b.size (abs_of (at a n i k))) (best i (abs_of (at a n i k))) b

  abbrev last_pass_at : ℕ → Work (List Float) → Work (List Float)
  last_pass_at k w =
      pick (goes_on w.stop) (pass_with real n k
      (loop (last_better_at w.a k) (k + 1) n (best k (abs_of (at w.a n k k)))).row w.a w.ip)
      w

abbrev pub last_of_largest : Routine (List Float)
last_of_largest n a ip = answered real n (last_tested real n (loop (last_pass_at n) 0 (n - 1) (work a ip nowhere)))

-- 1,2;-1,1: both are of the size 1, so the first row stays
pub not-last-of-largest : Meets last_of_largest → ⊥
unfolding loop pick at put abs_of better_at pivot_row swapped scaled_at column_at eliminated
    pass_with passed pass_at last_tested single worked answered update_at updated reciprocal
    multiplier is_zero lu_decomp_of add mul div neg le lt eq ne of_bits
not-last-of-largest meets = true≢false (sym (ap first_stays (meets 2 (one ∷ two ∷ minus_one ∷ one ∷ []) (7 ∷ 7 ∷ []))))

-- ---- a swapped row index (lu.rs:87-92)

module _ (n : ℕ) where
  abbrev one_way_swapped : ℕ → ℕ → ℕ → List Float → List Float
  one_way_swapped k m j a = pick (eqb m k) a (put (put a n k j (at a n k j)) n k j (at a n m j))

  abbrev one_way_column_at : ℕ → ℕ → ℕ → List Float → List Float
  one_way_column_at k m j a = updated n k j (at a n m j) (one_way_swapped k m j a)

  abbrev one_way_pass_with : ℕ → ℕ → List Float → List ℕ → Work (List Float)
  one_way_pass_with k m a ip =
      pick (is_zero (at a n m k)) (work a (set ip k m) (column k))
      (work (loop (one_way_column_at k m) (k + 1) n
      (loop (scaled_at real n k (reciprocal (at a n m k))) (k + 1) n (one_way_swapped k m k a)))
      (set ip k m) nowhere)

  abbrev one_way_pass_at : ℕ → Work (List Float) → Work (List Float)
  one_way_pass_at k w = pick (goes_on w.stop) (one_way_pass_with k (pivot_row real n w.a k) w.a w.ip) w

abbrev pub one_way_swap : Routine (List Float)
one_way_swap n a ip = answered real n (last_tested real n (loop (one_way_pass_at n) 0 (n - 1) (work a ip nowhere)))

-- below -0.5
abbrev lower_below : Decomposition (List Float) → Bool
lower_below d = lt (at d.a 2 1 0) (double 0xbfe0_0000_0000_0000)

-- 1,2;4,4 has the multiplier -0.25, not -1
pub not-one-way-swap : Meets one_way_swap → ⊥
unfolding loop pick at put abs_of better_at pivot_row swapped scaled_at column_at
    eliminated pass_with passed pass_at last_tested single worked answered update_at
    updated reciprocal multiplier is_zero lu_decomp_of add mul div neg lt eq ne of_bits
not-one-way-swap meets = true≢false (ap lower_below (meets 2 (one ∷ two ∷ four ∷ four ∷ []) (7 ∷ 7 ∷ [])))

-- ---- the first diagonal entry at the end (lu.rs:122)

abbrev first_tested : ℕ → Work (List Float) → Work (List Float)
first_tested n w = pick (goes_on w.stop) (pick (is_zero (at w.a n 0 0)) (work w.a w.ip (column (n - 1))) w) w

abbrev pub first_diagonal : Routine (List Float)
first_diagonal n a ip = answered real n (first_tested n (loop (pass_at real n) 0 (n - 1) (work a ip nowhere)))

-- 1,1;1,1 is singular, which only the last entry tells
pub not-first-diagonal : Meets first_diagonal → ⊥
unfolding loop pick at put abs_of better_at pivot_row swapped scaled_at column_at
    eliminated pass_with passed pass_at last_tested single worked answered update_at
    updated reciprocal multiplier is_zero lu_decomp_of add mul div neg lt eq ne of_bits
not-first-diagonal meets = true≢false (ap is_done (meets 2 (one ∷ one ∷ one ∷ one ∷ []) (7 ∷ 7 ∷ [])))

-- ---- the column of a zero pivot (02, [3])

abbrev renumbered : (ℕ → ℕ) → Decomposed → Decomposed
renumbered f (Ok done) = Ok done
renumbered f (Err undone.Order) = Err undone.Order
renumbered f (Err undone.Length) = Err undone.Length
renumbered f (Err (undone.Singular k)) = Err (undone.Singular (f k))

-- told as f has it, and else the same
abbrev pub told_as : (ℕ → ℕ) → Routine (List Float)
told_as f n a ip =
    decomposition (renumbered f (lu_decomp_of n a ip).answer) (lu_decomp_of n a ip).a (lu_decomp_of n a ip).ip

abbrev is_second : Decomposed → Bool
is_second (Ok done) = false
is_second (Err undone.Order) = false
is_second (Err undone.Length) = false
is_second (Err (undone.Singular k)) = eqb k 1

-- 1,1;1,1 has no pivot in the second of its columns, which is column 1
module _ (f : ℕ → ℕ) where
  stops-in-second : Meets (told_as f) → eqb (f 1) 1 ≡ true
  unfolding loop pick at put abs_of better_at pivot_row swapped scaled_at column_at
      eliminated pass_with passed pass_at last_tested single worked answered update_at
      updated reciprocal multiplier is_zero lu_decomp_of add mul div neg lt eq ne of_bits
  stops-in-second meets =
      ap (λ (d : Decomposition (List Float)). is_second d.answer) (meets 2 (one ∷ one ∷ one ∷ one ∷ []) (7 ∷ 7 ∷ []))

pub not-from-one : Meets (told_as (λ (k : ℕ). k + 1)) → ⊥
not-from-one meets = true≢false (sym (stops-in-second (λ (k : ℕ). k + 1) meets))

pub not-always-first : Meets (told_as (λ (k : ℕ). 0)) → ⊥
not-always-first meets = true≢false (sym (stops-in-second (λ (k : ℕ). 0) meets))

-- ---- the imaginary-only product with its real part's sign left out (lu.rs:282)

abbrev added_imaginary_at : ℕ → ℕ → ℕ → Float → ℕ → Parts → Parts
added_imaginary_at n k j mi i a = added_complex n i j a
    (complex ((at_complex a n i k).im ⊗ mi) ((at_complex a n i k).re ⊗ mi))

abbrev imaginary_sign_updated : ℕ → ℕ → ℕ → Complex → Parts → Parts
imaginary_sign_updated n k j t a =
    pick (ne (size_complex t) (double 0))
    (pick (eq t.im (double 0)) (loop (real_at n k j t.re) (k + 1) n a)
    (pick (eq t.re (double 0)) (loop (added_imaginary_at n k j t.im) (k + 1) n a)
    (loop (general_at n k j t) (k + 1) n a)))
    a

abbrev imaginary_sign_kind : Kind Parts Complex
imaginary_sign_kind =
    record {
      at = at_complex;
      put = put_complex;
      size = size_complex;
      is_zero = is_zero_complex;
      reciprocal = reciprocal_complex;
      multiplier = multiplier_complex;
      updated = imaginary_sign_updated;
    }

abbrev pub imaginary_sign : Routine Parts
imaginary_sign n a ip = answered imaginary_sign_kind n (worked imaginary_sign_kind n a ip)

-- 1,i;i,1 leaves 2 in the last place, and isn't singular
pub not-imaginary-sign : MeetsComplex imaginary_sign → ⊥
unfolding loop pick at put abs_of at_complex put_complex size_complex negated_complex plus_complex times_complex
    square_complex reciprocal_complex better_at pivot_row swapped scaled_at column_at eliminated pass_with passed
    pass_at last_tested single worked answered added_complex real_at imaginary_at general_at updated_complex
    multiplier_complex is_zero_complex lu_decomp_complex_of add sub mul div neg lt eq ne of_bits
not-imaginary-sign meets =
    true≢false
    (sym (ap is_done (meets 2 (parts (one ∷ none ∷ none ∷ one ∷ []) (none ∷ one ∷ one ∷ none ∷ [])) (7 ∷ 7 ∷ []))))

-- ---- pivots tested after the work (01, number 18; a refusal writes nothing)

abbrev pub MeetsSolve : (ℕ → List Float → List Float → List ℕ → Solution (List Float)) → Type 0
MeetsSolve f = (n : ℕ) (a b : List Float) (ip : List ℕ) → f n a b ip ≡ lin_solve_of n a b ip

abbrev pub tested_late : ℕ → List Float → List Float → List ℕ → Solution (List Float)
tested_late n a b ip = solution (pick (stray n ip) (Err unsolved.Pivot) (Ok tt)) (solved real_side a n ip b)

abbrev first_is_one : Solution (List Float) → Bool
first_is_one s = eq (s.b ! 0) one

-- of two rows there is no third to change places with
pub not-tested-late : MeetsSolve tested_late → ⊥
unfolding loop pick at stray_at stray exchanged forward_at back_at substituted solved divided add_at forward take_at
    back lin_solve_of add mul div neg eq
not-tested-late meets =
    true≢false (sym (ap first_is_one (meets 2 (one ∷ none ∷ none ∷ one ∷ []) (one ∷ one ∷ []) (2 ∷ 0 ∷ []))))
