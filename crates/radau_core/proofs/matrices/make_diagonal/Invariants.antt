-- What each loop of `make_diagonal` keeps.
use Rattle.words.proofs.Loops.{Ran}
use Rattle.solve_blocks.specs.Entries.{three}
use Rattle.solve_blocks.specs.Reordered.{diagonal_at}
use Rattle.solve_blocks.proofs.MatrixLaws.{Squares}
use Rattle.radau_core.proofs.matrices.make_diagonal.Given as goal

abbrev pub invariant-loop-r : goal.invariant-loop-r
invariant-loop-r l = Ran (diagonal_at l.n l.a l.b l.c l.jac) (Squares l.n) 0 l.n l.r
    (three l.initial.e1 l.initial.e2r l.initial.e2i) (three l.e1 l.e2r l.e2i)
