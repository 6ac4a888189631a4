-- One case of each way out of the interpolation, and the two steps that `bounds` may get wrong, by computation. (01's
-- P10 stands in the crate `examples`.)
use mathlib.Core.Path.{◌≡◌, refl}
use mathlib.Core.List.{[], ◌∷◌}
use lib.Ieee.{Float, nan, sub, mul, div, le, of_bits}
use Rattle.words.specs.Words.{◌⊕◌, double}
use Rattle.words.specs.Loop.{loop, pick}
use Rattle.std.specs.Prelude.{Ok, Err}
use Rattle.dense.specs.declared.answers.InterpolationError.TheVariants.{ShortTarget}
use Rattle.dense.specs.Answers.{interpolation}
use Rattle.dense.specs.Interpolate.{place_of, polynomial_of, amount_of, interpolate_at, interpolate_of}
use Rattle.dense.specs.Bounds.{ends, bounds_of}

-- ---- the numbers of the examples

abbrev pub none : Float
none = double 0

abbrev pub minus_none : Float
minus_none = double 0x8000_0000_0000_0000

abbrev pub one : Float
one = double 0x3ff0_0000_0000_0000

abbrev pub two : Float
two = double 0x4000_0000_0000_0000

-- ---- interpolation

-- Nine coefficients are those of two amounts: the ninth isn't read, and the target's third entry isn't written. The
-- doubles are what the Rust, compiled, writes: about 0.122 and 1.670.
pub two-amounts :
    interpolate_of one (one ∷ one ∷ two ∷ []) (one ∷ two ∷ two ∷ one ∷ one ∷ two ∷ two ∷ one ∷ two ∷ []) none two
    ≡ interpolation (Ok tt) (double 0x3fbf_5a7c_ecdb_6848 ∷ double 0x3ffa_b81c_6a68_39d6 ∷ two ∷ [])
unfolding interpolate_of interpolate_at amount_of polynomial_of place_of loop pick sub mul div of_bits
two-amounts = refl

pub short-target : interpolate_of one [] (one ∷ two ∷ none ∷ none ∷ []) none two ≡ interpolation (Err ShortTarget) []
unfolding interpolate_of pick
short-target = refl

-- with no coefficients any target is long enough
pub no-coefficients : interpolate_of one [] [] none two ≡ interpolation (Ok tt) []
unfolding interpolate_of loop pick
no-coefficients = refl

-- ---- bounds

pub nan-step : (xold : Float) → bounds_of xold nan ≡ ends (xold ⊕ nan) xold
unfolding bounds_of pick le of_bits
nan-step xold = refl

pub minus-zero-step : (xold : Float) → bounds_of xold minus_none ≡ ends xold (xold ⊕ minus_none)
unfolding bounds_of pick le of_bits
minus-zero-step xold = refl
