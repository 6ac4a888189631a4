-- `lin_solve` (linear.rs:55-94): the arithmetic of a real right side, and the routine with its refusals.
use Rattle.std.specs.Prelude.{ℕ, ◌+◌, ◌*◌, ◌&&◌, List, eqb, leb, length, set, Ok, Err, Float}
use Rattle.std.specs.Float.Ieee.{neg}
use Rattle.words.specs.Words.{◌⊕◌, ◌⊗◌, ◌⊘◌, ◌!◌}
use Rattle.words.specs.Loop.{loop, pick}
use Rattle.words.specs.Grid.{at}
use Rattle.state.specs.Pivots.{stray}
use Rattle.matrix.specs.declared.answers.SolveError.TheVariants as unsolved
use Rattle.matrix.specs.Answers.{Solution, solution}
use Rattle.matrix.specs.Substitution.{exchanged, Side, solved}

-- [linear.rs:83-84] [alike linear.rs:92-93] (linear.rs:60)
unfoldable pub divided : List Float → ℕ → ℕ → List Float → List Float
divided a n k b = set b k (b ! k ⊘ at a n k k)

-- [linear.rs:75]
unfoldable pub add_at : List Float → ℕ → ℕ → ℕ → List Float → List Float
add_at a n k i b = set b i (b ! i ⊕ at a n i k ⊗ b ! k)

-- [linear.rs:73-74]
unfoldable pub forward : List Float → ℕ → ℕ → ℕ → List Float → List Float
forward a n k m b = loop (add_at a n k) (k + 1) n (exchanged ◌!◌ set m k b)

-- [linear.rs:88]
unfoldable pub take_at : List Float → ℕ → ℕ → ℕ → List Float → List Float
take_at a n k i b = set b i (b ! i ⊕ at a n i k ⊗ neg (b ! k))

-- [linear.rs:86-87]
unfoldable pub back : List Float → ℕ → ℕ → List Float → List Float
back a n k b = loop (take_at a n k) 0 k b

abbrev pub real_side : Side (List Float) (List Float)
real_side = record { divided = divided; forward = forward; back = back }

-- Refusals 1, 16 and 18, then the work (01, 'Numbers that refuse') [linear.rs:55-56]
unfoldable pub lin_solve_of : ℕ → List Float → List Float → List ℕ → Solution (List Float)
lin_solve_of n a b ip =
    pick (leb 1 n && leb n 32)
    (pick (eqb (length a) (n * n) && eqb (length b) n && eqb (length ip) n)
    (pick (stray n ip) (solution (Err unsolved.Pivot) b) (solution (Ok tt) (solved real_side a n ip b)))
    (solution (Err unsolved.Length) b))
    (solution (Err unsolved.Order) b)
