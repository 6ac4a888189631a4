-- What each loop of `plus` keeps.
use Rattle.words.proofs.Loops.{Ran, Long}
use Rattle.solve_blocks.specs.Estimate.{plus_at}
use Rattle.radau_core.proofs.estimate.plus.Given as goal

abbrev pub invariant-loop-i : goal.invariant-loop-i
invariant-loop-i l = Ran (plus_at l.y) (Long l.initial.cont) 0 l.n l.i l.initial.cont l.cont
