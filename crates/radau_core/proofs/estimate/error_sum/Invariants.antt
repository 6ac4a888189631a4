-- What each loop of `error_sum` keeps.
use Rattle.words.proofs.Loops.{Ran, Any}
use Rattle.solve_blocks.specs.Estimate.{error_at}
use Rattle.radau_core.proofs.estimate.error_sum.Given as goal

abbrev pub invariant-loop-i : goal.invariant-loop-i
invariant-loop-i l = Ran (error_at l.scal l.cont) Any 0 l.n l.i l.initial.sum l.sum
