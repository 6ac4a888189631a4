-- What each loop of `all_finite` keeps.
use Rattle.words.proofs.Loops.{Ran, Any}
use Rattle.solve_blocks.specs.Reordered.{finite_at}
use Rattle.radau_core.proofs.entries.all_finite.Given as goal

abbrev pub invariant-loop-j : goal.invariant-loop-j
invariant-loop-j l = Ran (finite_at l.values) Any 0 l.n l.j l.initial.all l.all
