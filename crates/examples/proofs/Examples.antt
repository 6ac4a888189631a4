-- The table has the places P1 to P12, and at each of them the definitions give what the document says: by computation.
use mathlib.Core.Path.{refl}
use lib.Ieee.{add, sub, mul, div, neg, le, lt, eq, ne, of_bits, to_bits}
use Rattle.words.specs.Loop.{loop, pick}
use Rattle.words.specs.Grid.{at, put}
use Rattle.scalar.specs.Order.{abs_of}
use Rattle.scalar.specs.Products.{times_at, product}
use Rattle.words.specs.Patterns.{units, units_in_one}
use Rattle.scalar.specs.Halving.{halve}
use Rattle.scalar.specs.Root.{keeps, halved_root, root_of_form, root_of}
use Rattle.scalar.specs.SquareRoot.{square_of}
use Rattle.scalar.specs.SquareRootComputed.{border, reaches, nearest_root, sqrt_of}
use Rattle.state.specs.Pivots.{stray_at, stray}
use Rattle.matrix.specs.Complex.{at_complex, entry_complex, set_complex, size_complex, square_complex, over_complex}
use Rattle.matrix.specs.Elimination.{better_at, pivot_row, swapped, scaled_at, column_at, eliminated}
use Rattle.matrix.specs.Elimination.{pass_with, passed, pass_at, last_tested, single, worked, answered}
use Rattle.matrix.specs.Lu.{update_at, updated, reciprocal, multiplier, is_zero, lu_decomp_of}
use Rattle.matrix.specs.LuComplex.{is_zero_complex, lu_decomp_complex_of}
use Rattle.matrix.specs.Substitution.{exchanged, forward_at, back_at, substituted, solved}
use Rattle.matrix.specs.Linear.{divided, add_at, forward, take_at, back, lin_solve_of}
use Rattle.matrix.specs.LinearComplex.{divided_complex, lin_solve_complex_of}
use Rattle.dense.specs.Interpolate.{place_of, polynomial_of, amount_of, interpolate_at, interpolate_of}
use Rattle.state.specs.Memory.{zeros}
use Rattle.model.specs.Model.{times_amount, speed_of, lessened, raised, reacted, derivative_of}
use Rattle.model.specs.Derivative.{unknown_at, unknown, derived_of}
use Rattle.examples.specs.Examples.{Hold, examples}

pub examples-hold : Hold examples
unfolding loop pick at put add sub mul div neg le lt eq ne of_bits to_bits abs_of times_at product units units_in_one
    halve keeps halved_root root_of_form root_of square_of border reaches nearest_root sqrt_of at_complex entry_complex
    set_complex size_complex square_complex over_complex better_at pivot_row swapped scaled_at column_at eliminated
    pass_with passed pass_at last_tested single worked answered update_at updated reciprocal multiplier is_zero
    lu_decomp_of is_zero_complex lu_decomp_complex_of stray_at stray exchanged forward_at back_at substituted solved
    divided add_at forward take_at back lin_solve_of divided_complex lin_solve_complex_of place_of polynomial_of
    amount_of interpolate_at interpolate_of zeros times_amount speed_of lessened raised reacted derivative_of unknown_at
    unknown derived_of
examples-hold = record { complete = refl; right = refl }
