-- What each loop of `interpolate` keeps.
use Rattle.words.proofs.Loops.{Ran, Long}
use Rattle.dense.specs.Interpolate.{interpolate_at}
use Rattle.dense.proofs.interpolation.interpolate.Given as goal

abbrev pub invariant-loop-i : goal.invariant-loop-i
invariant-loop-i l = Ran (interpolate_at l.s l.n l.cont) (Long l.initial.yi) 0 l.n l.i l.initial.yi l.yi
