-- What each loop of `scaled` keeps.
use Rattle.words.proofs.Loops.{Ran, Long}
use Rattle.solve_blocks.specs.Scale.{scale_at}
use Rattle.radau_core.proofs.scale.scaled.Given as goal

abbrev pub invariant-loop-i : goal.invariant-loop-i
invariant-loop-i l = Ran (scale_at l.tolerances l.rtol l.atol l.y) (Long l.initial.scal) 0 l.n l.i l.initial.scal l.scal
