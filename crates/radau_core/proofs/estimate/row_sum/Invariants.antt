-- What each loop of `row_sum` keeps.
use Rattle.words.proofs.Loops.{Ran, Any}
use Rattle.solve_blocks.specs.Estimate.{row_at}
use Rattle.radau_core.proofs.estimate.row_sum.Given as goal

abbrev pub invariant-loop-j : goal.invariant-loop-j
invariant-loop-j l = Ran (row_at l.mode l.n l.mass l.f1 l.i) Any 0 l.n l.j l.initial.sum l.sum
