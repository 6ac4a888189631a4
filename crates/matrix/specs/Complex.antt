-- Complex numbers, vectors and matrices in two parts, and the arithmetic that lu.rs and linear.rs write out by hand.
use Rattle.std.specs.Prelude.{ℕ, List, set, Float}
use Rattle.std.specs.Float.Ieee.{neg}
use Rattle.words.specs.Words.{◌⊕◌, ◌⊖◌, ◌⊗◌, ◌⊘◌, ◌!◌}
use Rattle.words.specs.Grid.{at, put}
use Rattle.scalar.specs.Order.{abs_of}
use Rattle.matrix.specs.declared.complex.Complex.{Complex}

abbrev pub complex : Float → Float → Complex
complex re im = record { re = re; im = im }

-- a vector or a matrix: the list of its real parts, and of its imaginary parts
pub record Parts : Type 0 where
  pub re : List Float
  pub im : List Float

abbrev pub parts : List Float → List Float → Parts
parts re im = record { re = re; im = im }

-- ---- entries

-- row i, column k of an n by n matrix
unfoldable pub at_complex : Parts → ℕ → ℕ → ℕ → Complex
at_complex a n i k = complex (at a.re n i k) (at a.im n i k)

unfoldable pub put_complex : Parts → ℕ → ℕ → ℕ → Complex → Parts
put_complex a n i k z = parts (put a.re n i k z.re) (put a.im n i k z.im)

-- entry i of a vector
unfoldable pub entry_complex : Parts → ℕ → Complex
entry_complex b i = complex (b.re ! i) (b.im ! i)

unfoldable pub set_complex : Parts → ℕ → Complex → Parts
set_complex b i z = parts (set b.re i z.re) (set b.im i z.im)

-- ---- arithmetic

-- what stands for the size of z (lu.rs:199, 212, 214, 227, 270, 301)
unfoldable pub size_complex : Complex → Float
size_complex z = abs_of z.re ⊕ abs_of z.im

-- [linear.rs:196-198] (lu.rs:250-251)
unfoldable pub negated_complex : Complex → Complex
negated_complex z = complex (neg z.re) (neg z.im)

-- the sum that `+=` makes of two parts (lu.rs:276-277; linear.rs:180-181, 204-205)
unfoldable pub plus_complex : Complex → Complex → Complex
plus_complex x y = complex (x.re ⊕ y.re) (x.im ⊕ y.im)

-- x times t [lu.rs:248-249] [alike lu.rs:290-291] [again linear.rs:178-179] [again linear.rs:202-203]
unfoldable pub times_complex : Complex → Complex → Complex
times_complex x t = complex (x.re ⊗ t.re ⊖ x.im ⊗ t.im) (x.im ⊗ t.re ⊕ x.re ⊗ t.im)

-- `den` [lu.rs:241-242] [alike linear.rs:189-190] [alike linear.rs:209-210] (linear.rs:150)
unfoldable pub square_complex : Complex → Float
square_complex z = z.re ⊗ z.re ⊕ z.im ⊗ z.im

-- 1 over z [lu.rs:243-244]
unfoldable pub reciprocal_complex : Complex → Complex
reciprocal_complex z = complex (z.re ⊘ square_complex z) (neg z.im ⊘ square_complex z)

-- x over z [linear.rs:191-192] [alike linear.rs:211-212] (linear.rs:151-152)
unfoldable pub over_complex : Complex → Complex → Complex
over_complex x z =
    complex ((x.re ⊗ z.re ⊕ x.im ⊗ z.im) ⊘ square_complex z) ((x.im ⊗ z.re ⊖ x.re ⊗ z.im) ⊘ square_complex z)
