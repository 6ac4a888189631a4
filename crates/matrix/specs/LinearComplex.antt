-- `lin_solve_complex` (linear.rs:138-215): the arithmetic of a complex right side, and the routine with its refusals.
use Rattle.std.specs.Prelude.{ℕ, ◌+◌, ◌*◌, ◌&&◌, List, eqb, leb, length, Ok, Err}
use Rattle.words.specs.Loop.{loop, pick}
use Rattle.state.specs.Pivots.{stray}
use Rattle.matrix.specs.declared.complex.Complex.{Complex}
use Rattle.matrix.specs.declared.answers.SolveError.TheVariants as unsolved
use Rattle.matrix.specs.Answers.{Solution, solution}
use Rattle.matrix.specs.Complex.{Parts, at_complex, entry_complex, set_complex}
use Rattle.matrix.specs.Complex.{negated_complex, plus_complex, times_complex, over_complex}
use Rattle.matrix.specs.Substitution.{exchanged, Side, solved}

-- [linear.rs:193-194] [alike linear.rs:213-214] (linear.rs:153-154)
unfoldable pub divided_complex : Parts → ℕ → ℕ → Parts → Parts
divided_complex a n k b = set_complex b k (over_complex (entry_complex b k) (at_complex a n k k))

-- [linear.rs:180-181] [again linear.rs:204-205]
unfoldable pub add_complex_at : Parts → ℕ → ℕ → Complex → ℕ → Parts → Parts
add_complex_at a n k t i b = set_complex b i (plus_complex (entry_complex b i) (times_complex (at_complex a n i k) t))

-- t is b[m] as it was before the exchange [linear.rs:175-177]
unfoldable pub forward_complex : Parts → ℕ → ℕ → ℕ → Parts → Parts
forward_complex a n k m b =
    loop (add_complex_at a n k (entry_complex b m)) (k + 1) n (exchanged entry_complex set_complex m k b)

-- [linear.rs:200-201]
unfoldable pub back_complex : Parts → ℕ → ℕ → Parts → Parts
back_complex a n k b = loop (add_complex_at a n k (negated_complex (entry_complex b k))) 0 k b

abbrev pub complex_side : Side Parts Parts
complex_side = record { divided = divided_complex; forward = forward_complex; back = back_complex }

-- Refusals 1, 16 and 18, then the work (01, 'Numbers that refuse') [linear.rs:138-145]
unfoldable pub lin_solve_complex_of : ℕ → Parts → Parts → List ℕ → Solution Parts
lin_solve_complex_of n a b ip =
    pick (leb 1 n && leb n 32)
    (pick
    (eqb (length a.re) (n * n) && eqb (length a.im) (n * n)
    && eqb (length b.re) n && eqb (length b.im) n && eqb (length ip) n)
    (pick (stray n ip) (solution (Err unsolved.Pivot) b) (solution (Ok tt) (solved complex_side a n ip b)))
    (solution (Err unsolved.Length) b))
    (solution (Err unsolved.Order) b)
