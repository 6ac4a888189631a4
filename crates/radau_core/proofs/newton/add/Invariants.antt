-- What each loop of `add` keeps.
use Rattle.words.proofs.Loops.{Ran}
use Rattle.solve_blocks.specs.Entries.{three}
use Rattle.solve_blocks.specs.Newton.{add_at}
use Rattle.solve_blocks.proofs.ThreeLaws.{ThreeLong}
use Rattle.radau_core.proofs.newton.add.Given as goal

abbrev pub invariant-loop-i : goal.invariant-loop-i
invariant-loop-i l = Ran (add_at (three l.z1 l.z2 l.z3)) (ThreeLong l.n) 0 l.n l.i
    (three l.initial.f1 l.initial.f2 l.initial.f3) (three l.f1 l.f2 l.f3)
