-- What each loop of `norm_sum` keeps.
use Rattle.words.proofs.Loops.{Ran, Any}
use Rattle.solve_blocks.specs.Entries.{three}
use Rattle.solve_blocks.specs.Newton.{norm_at}
use Rattle.radau_core.proofs.newton.norm_sum.Given as goal

abbrev pub invariant-loop-i : goal.invariant-loop-i
invariant-loop-i l = Ran (norm_at l.scal (three l.z1 l.z2 l.z3)) Any 0 l.n l.i l.initial.sum l.sum
