-- Wrong readings of the scalar routines: claims that each would break, or a routine that takes it, refuted. They are
-- computed from the definitions, to which the contracts tie the code.
use Prim.Native.Nat.{ℕ, ◌+◌, ◌-◌, ◌*◌, ◌/◌, ◌^◌}
use mathlib.Core.Path.{◌≡◌, refl, sym, ap, ◌∙◌}
use mathlib.Core.Bool.{false}
use native.Mathlib.Omega.{arith}
use lib.Dec.{leb}
use lib.Ieee.{Float, binary64, nan, mul, le, lt, is_nan, of_bits, to_bits}
use Rattle.words.specs.Words.{double}
use Rattle.words.specs.Constants.{«1·0»}
use Rattle.words.specs.Loop.{loop, pick}
use Rattle.scalar.specs.Order.{min_of, signum_of}
use Rattle.scalar.specs.Products.{times_at, product}
use Rattle.words.specs.Patterns.{units, units_in_one, infinity_pattern}
use Rattle.scalar.specs.Halving.{halve}
use Rattle.scalar.specs.Root.{keeps, halved_root, root_of_form, root_of}
use Rattle.scalar.specs.SquareRoot.{square_of}
use Rattle.scalar.specs.SquareRootComputed.{border, reaches, nearest_root, sqrt_of}
use Rattle.scalar.specs.Steps.{Ordered, EvenPlace, Digits}
use Rattle.scalar.specs.Exact.{exact_at, between, less, more, cubic_at, signed_units, up, down}

-- of max and min, a NaN yields the other, on either side
min-of-nan : min_of nan «1·0» ≡ «1·0»
unfolding min_of pick is_nan of_bits
min-of-nan = refl

min-by-nan : min_of «1·0» nan ≡ «1·0»
unfolding min_of pick is_nan lt of_bits
min-by-nan = refl

-- signum of -0 is -1
signum-of-minus-zero : signum_of (double 0x8000_0000_0000_0000) ≡ double 0xbff0_0000_0000_0000
unfolding signum_of of_bits
signum-of-minus-zero = refl

-- two doubles below DD2 the exact number is no longer between the neighbours
coefficient-off : between (double 0x3ff6_1d41_b2d5_4582) (exact_at 6) ≡ false
unfolding between less more cubic_at signed_units up down units units_in_one pick of_bits to_bits
coefficient-off = refl

-- ---- routines that take a wrong reading, each refuted at one double

-- keeping only products strictly below v: of 4 it gives the double below 2
abbrev pub keeping_less : ℕ → Float → Float
keeping_less m v = double (halve 63 (λ b. lt (product m (double b)) v) 0 infinity_pattern)

abbrev bits_of : Float → ℕ
bits_of x = to_bits binary64 x

pub not-keeping-less : ((m : ℕ) (v : Float) → Ordered m v → keeping_less m v ≡ root_of m v) → ⊥
unfolding keeps halve halved_root root_of_form root_of product times_at loop pick mul le lt of_bits to_bits
not-keeping-less meets =
    let e : ◌≡◌ {A = ℕ} 0x3fff_ffff_ffff_ffff 0x4000_0000_0000_0000 =
    ap bits_of (meets 2 (double 0x4010_0000_0000_0000) (record { low = omega arith; high = omega arith; above = tt }))
    in
    omega arith

-- Before it rounds, the routine has the root's digits and what is left of the number beyond their square. One that
-- rounds up where as much is left as the root itself gives 2 for the double below 4: wrong by one double.
abbrev pub RoundsUp : (Float → Float) → Type 0
RoundsUp f =
    (b m w q r : ℕ) → EvenPlace (units b) m w → Digits (m * 2 ^ 52) q r
    → f (double b) ≡ double ((w - 52) / 2 * 2 ^ 52 + q + pick (leb q r) 1 0)

pub not-rounds-up : (f : Float → Float) → RoundsUp f → ((x : Float) → f x ≡ sqrt_of x) → ⊥
unfolding units units_in_one square_of halve border reaches nearest_root sqrt_of pick of_bits to_bits
not-rounds-up f rounds meets =
    let e : ◌≡◌ {A = ℕ} 0x4000_0000_0000_0000 0x3fff_ffff_ffff_ffff =
    ap bits_of
    (sym (rounds 0x400f_ffff_ffff_ffff (2 ^ 54 - 2) 2096 (2 ^ 53 - 1) (2 ^ 53 - 1)
    (record
    { same = refl; full = omega arith; fits = omega arith; even = refl; least = omega arith; most = omega arith })
    (record { sum = refl; left = omega arith }))
    ∙ meets (double 0x400f_ffff_ffff_ffff)) in
    omega arith
