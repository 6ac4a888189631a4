-- What each loop of `make_plain` keeps.
use Prim.Native.Nat.{◌*◌}
use Rattle.words.proofs.Loops.{Ran}
use Rattle.solve_blocks.specs.Entries.{three}
use Rattle.solve_blocks.specs.Reordered.{made_at}
use Rattle.solve_blocks.proofs.MatrixLaws.{Squares}
use Rattle.radau_core.proofs.matrices.make_plain.Given as goal

abbrev pub invariant-loop-k : goal.invariant-loop-k
invariant-loop-k l = Ran (made_at l.a l.b l.c l.jac) (Squares l.n) 0 (l.n * l.n) l.k
    (three l.initial.e1 l.initial.e2r l.initial.e2i) (three l.e1 l.e2r l.e2i)
