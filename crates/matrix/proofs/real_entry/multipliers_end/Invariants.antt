-- What each loop of `multipliers_end` keeps.
use Rattle.matrix.specs.Lu.{real}
use Rattle.matrix.specs.Reordered.{IdleFrom, added_of}
use Rattle.matrix.proofs.real_entry.multipliers_end.Given as goal

abbrev pub invariant-loop-j : goal.invariant-loop-j
invariant-loop-j l = IdleFrom real added_of l.n l.k l.j l.a
