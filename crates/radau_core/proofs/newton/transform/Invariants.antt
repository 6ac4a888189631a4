-- What each loop of `transform` keeps.
use Rattle.words.proofs.Loops.{Ran}
use Rattle.solve_blocks.specs.Entries.{three}
use Rattle.solve_blocks.specs.Newton.{transform_at}
use Rattle.solve_blocks.proofs.ThreeLaws.{ThreeLong}
use Rattle.radau_core.proofs.newton.transform.Given as goal

abbrev pub invariant-loop-i : goal.invariant-loop-i
invariant-loop-i l = Ran transform_at (ThreeLong l.n) 0 l.n l.i (three l.initial.z1 l.initial.z2 l.initial.z3)
    (three l.z1 l.z2 l.z3)
