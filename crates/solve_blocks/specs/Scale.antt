-- The error scale: from the tolerances, and divided for the algebraic variables of index 2 and 3.
use Rattle.std.specs.Prelude.{ℕ, ◌+◌, List, set, Float}
use Rattle.words.specs.Words.{◌⊕◌, ◌⊗◌, ◌⊘◌, ◌!◌}
use Rattle.words.specs.Loop.{loop}
use Rattle.scalar.specs.Order.{abs_of}
use Rattle.scalar.specs.Products.{power_of}
use Rattle.state.specs.declared.run.Shape.{Shape}
use Rattle.state.specs.declared.run.Tolerances.{Tolerances}
use Rattle.solve_blocks.specs.Entries.{rtol_at, atol_at}

-- [radau.rs:365-366] [again radau.rs:716-717]
unfoldable pub scale_at : Tolerances → List Float → List Float → List Float → ℕ → List Float → List Float
scale_at t rtol atol y i scal = set scal i (atol_at t atol i ⊕ rtol_at t rtol i ⊗ abs_of (y ! i))

-- [radau.rs:363-364] [again radau.rs:714-715]
unfoldable pub scaled_of : ℕ → Tolerances → List Float → List Float → List Float → List Float → List Float
scaled_of n t rtol atol y scal = loop (scale_at t rtol atol y) 0 n scal

-- [radau.rs:439-441] [alike radau.rs:444-446]
unfoldable pub divide_at : Float → ℕ → List Float → List Float
divide_at d i scal = set scal i (scal ! i ⊘ d)

-- index 2 by hhfac, index 3 by its square [radau.rs:436-438] [alike radau.rs:442-443]
unfoldable pub weighted_of : Shape → Float → List Float → List Float
weighted_of s hhfac scal =
    loop (divide_at (power_of 2 hhfac)) (s.nind1 + s.nind2) (s.nind1 + s.nind2 + s.nind3)
    (loop (divide_at hhfac) s.nind1 (s.nind1 + s.nind2) scal)
