-- What each loop of `stage_sum` keeps.
use Rattle.words.proofs.Loops.{Ran, Long}
use Rattle.solve_blocks.specs.Attempt.{stage_sum_at}
use Rattle.radau_core.proofs.attempt.stage_sum.Given as goal

abbrev pub invariant-loop-i : goal.invariant-loop-i
invariant-loop-i l = Ran (stage_sum_at l.y l.z) (Long l.initial.cont) 0 l.n l.i l.initial.cont l.cont
