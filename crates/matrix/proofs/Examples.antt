-- Cases of the matrix routines by computation: one of each refusal, and what is easily overlooked. (01's own examples
-- stand in the crate `examples`.)
use mathlib.Core.Bool.{true, false}
use mathlib.Core.Path.{◌≡◌, refl}
use mathlib.Core.List.{[], ◌∷◌}
use lib.IntN.{pos}
use lib.Ieee.{Float, fin, add, sub, mul, div, neg, lt, eq, ne, of_bits}
use Rattle.std.proofs.Common.{Ok, Err}
use Rattle.words.specs.Loop.{loop, pick}
use Rattle.words.specs.Grid.{at, put}
use Rattle.scalar.specs.Order.{abs_of}
use Rattle.state.specs.Pivots.{stray_at, stray}
use Rattle.matrix.specs.declared.answers.DecompositionError.TheVariants as undone
use Rattle.matrix.specs.declared.answers.SolveError.TheVariants as unsolved
use Rattle.matrix.specs.Answers.{decomposition, solution}
use Rattle.matrix.specs.Complex.{parts, at_complex, put_complex, size_complex, negated_complex}
use Rattle.matrix.specs.Complex.{plus_complex, times_complex, square_complex, reciprocal_complex}
use Rattle.matrix.specs.Elimination.{better_at, pivot_row, swapped, scaled_at, column_at, eliminated}
use Rattle.matrix.specs.Elimination.{pass_with, passed, pass_at, last_tested, single, worked, answered}
use Rattle.matrix.specs.Lu.{lu_decomp_of}
use Rattle.matrix.specs.LuComplex.{added_complex, real_at, imaginary_at, general_at, updated_complex}
use Rattle.matrix.specs.LuComplex.{multiplier_complex, is_zero_complex, lu_decomp_complex_of}
use Rattle.matrix.specs.Substitution.{solved}
use Rattle.matrix.specs.Linear.{divided, lin_solve_of}

-- ---- the numbers of the examples

abbrev pub none : Float
none = fin false 0 (pos 0)

abbrev pub one : Float
one = fin false 1 (pos 0)

abbrev pub two : Float
two = fin false 1 (pos 1)

abbrev pub four : Float
four = fin false 1 (pos 2)

abbrev pub minus_one : Float
minus_one = fin true 1 (pos 0)

abbrev minus_none : Float
minus_none = fin true 0 (pos 0)

-- ---- decompositions

-- 1,i;i,1: the pivots are of one size, so the first row stays, and the multiplier i has no real part
pub imaginary : lu_decomp_complex_of 2 (parts (one ∷ none ∷ none ∷ one ∷ []) (none ∷ one ∷ one ∷ none ∷ []))
    (7 ∷ 7 ∷ [])
    ≡ decomposition (Ok tt)
    (parts (one ∷ none ∷ minus_none ∷ two ∷ []) (none ∷ one ∷ minus_one ∷ none ∷ [])) (0 ∷ 7 ∷ [])
unfolding loop pick at put abs_of at_complex put_complex size_complex negated_complex plus_complex times_complex
    square_complex reciprocal_complex better_at pivot_row swapped scaled_at column_at eliminated pass_with passed
    pass_at last_tested single worked answered added_complex real_at imaginary_at general_at updated_complex
    multiplier_complex is_zero_complex lu_decomp_complex_of add sub mul div neg lt eq ne of_bits
imaginary = refl

pub too_large : lu_decomp_of 33 [] [] ≡ decomposition (Err undone.Order) [] []
unfolding pick lu_decomp_of
too_large = refl

pub pivots-too-long : lu_decomp_of 1 (one ∷ []) (0 ∷ 0 ∷ [])
    ≡ decomposition (Err undone.Length) (one ∷ []) (0 ∷ 0 ∷ [])
unfolding pick lu_decomp_of
pivots-too-long = refl

-- ---- solutions

pub stray-pivot : lin_solve_of 2 (four ∷ four ∷ one ∷ one ∷ []) (one ∷ one ∷ []) (2 ∷ 0 ∷ [])
    ≡ solution (Err unsolved.Pivot) (one ∷ one ∷ [])
unfolding loop pick stray_at stray lin_solve_of
stray-pivot = refl

-- the last pivot is never looked at
pub last-pivot : lin_solve_of 1 (two ∷ []) (four ∷ []) (9 ∷ []) ≡ solution (Ok tt) (two ∷ [])
unfolding loop pick at stray_at stray solved divided lin_solve_of div
last-pivot = refl
