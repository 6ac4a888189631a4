-- Numbers in lent memory: a matrix or a vector has its real parts in one slice, and its imaginary ones in another.
-- `imaginary` is how many slices those fill: one for complex numbers; none for real ones, whose other slice is empty.
use Rattle.std.specs.Prelude.{ℕ, ◌*◌, ◌≡◌, List, length, Float}
use Rattle.words.specs.Grid.{Square}

-- a matrix of the order n
abbrev pub IsMatrix : ℕ → ℕ → List Float → List Float → Type 0
IsMatrix imaginary n re im = Square n re × (length im ≡ imaginary * (n * n))

-- a vector of n entries
abbrev pub IsVector : ℕ → ℕ → List Float → List Float → Type 0
IsVector imaginary n re im = (length re ≡ n) × (length im ≡ imaginary * n)
