-- What each loop of `sum` keeps.
use Rattle.words.proofs.Loops.{Ran, Long}
use Rattle.solve_blocks.specs.Estimate.{sum_at}
use Rattle.radau_core.proofs.estimate.sum.Given as goal

abbrev pub invariant-loop-i : goal.invariant-loop-i
invariant-loop-i l = Ran (sum_at l.f1 l.f2) (Long l.initial.cont) 0 l.n l.i l.initial.cont l.cont
