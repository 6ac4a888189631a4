-- What each loop of `divide` keeps.
use Rattle.words.proofs.Loops.{Ran, Long}
use Rattle.solve_blocks.specs.Scale.{divide_at}
use Rattle.radau_core.proofs.scale.divide.Given as goal

abbrev pub invariant-loop-i : goal.invariant-loop-i
invariant-loop-i l = Ran (divide_at l.by) (Long l.initial.scal) l.from l.to l.i l.initial.scal l.scal
