-- A scalar tolerance of 1e-6, with 1e-9 beside it, through the conversion itself: about 1e-5 after one turn, 4.6e-5
-- after two. Under the Rust rule n amounts turn it n times, under the book rule once (01, 'Places where a port goes
-- astray'). What is said stands in FromRust, made by the Rust's own lines.
use Prim.Native.Nat.{ℕ}
use mathlib.Core.Path.{◌≡◌, refl}
use mathlib.Core.List.{List, [], ◌∷◌}
use lib.Ieee.{Float, binary64, le, lt, is_nan, mul, div, of_bits, to_bits}
use Rattle.words.specs.Words.{double}
use Rattle.words.specs.Constants.{«1·0e-6»}
use Rattle.words.specs.Loop.{loop, pick}
use Rattle.scalar.specs.Order.{max_of, min_of}
use Rattle.scalar.specs.Products.{times_at, product, power_of}
use Rattle.words.specs.Patterns.{units, units_in_one}
use Rattle.scalar.specs.Halving.{halve}
use Rattle.scalar.specs.Root.{keeps, halved_root, root_of_form, root_of}
use Rattle.scalar.specs.SquareRoot.{square_of}
use Rattle.scalar.specs.SquareRootComputed.{border, reaches, nearest_root, sqrt_of}
use Rattle.state.specs.declared.settings.Rule.{Rule}
use Rattle.state.specs.declared.settings.Rule.TheVariants as rule
use Rattle.state.specs.declared.run.Tolerances.{Tolerances}
use Rattle.state.specs.declared.run.Tolerances.TheVariants.{Scalars, Lists}
use Rattle.state.specs.Settings.{defaults_of}
use Rattle.opening.specs.declared.tolerances.Conversion.{Conversion}
use Rattle.opening.specs.Tolerances.{turn_at, scalar_turns, converted_of, newton_tol_of}
use Rattle.opening.proofs.FromRust as rust
use Rattle.std.specs.Prelude.{None}

abbrev bits_of : Float → ℕ
bits_of x = to_bits binary64 x

abbrev told : Tolerances → List ℕ
told (Scalars rtol atol) = bits_of rtol ∷ bits_of atol ∷ []
told Lists = []

-- 1e-6 and 1e-9
abbrev small : Float
small = «1·0e-6»

abbrev smaller : Float
smaller = double 0x3e11_2e0b_e826_d695

abbrev scalar_by : Rule → ℕ → Conversion
scalar_by r n = (converted_of r n (Scalars small smaller) [] []).conversion

pub scalar-once : told (scalar_by rule.Rust 1).tolerances ≡ rust.turned_once
unfolding converted_of scalar_turns turn_at power_of times_at product keeps halve halved_root root_of_form root_of loop
    pick le mul div of_bits to_bits
scalar-once = refl

pub scalar-twice : told (scalar_by rule.Rust 2).tolerances ≡ rust.turned_twice
unfolding converted_of scalar_turns turn_at power_of times_at product keeps halve halved_root root_of_form root_of loop
    pick le mul div of_bits to_bits
scalar-twice = refl

-- by the book once, however many amounts
pub scalar-book : (n : ℕ) → told (scalar_by rule.Book n).tolerances ≡ rust.turned_once
unfolding converted_of scalar_turns turn_at power_of times_at product keeps halve halved_root root_of_form root_of loop
    pick le mul div of_bits to_bits
scalar-book n = refl

-- the Newton tolerance comes from rtol after its turn
pub newton-tolerance : (bits_of (newton_tol_of None defaults_of.uround (scalar_by rule.Rust 1).tolst) ∷ [])
    ≡ rust.newton_tolerance
unfolding converted_of scalar_turns turn_at newton_tol_of power_of times_at product keeps halve halved_root root_of_form
    root_of units units_in_one square_of border reaches nearest_root sqrt_of max_of min_of loop pick is_nan le lt mul
    div of_bits to_bits
newton-tolerance = refl
