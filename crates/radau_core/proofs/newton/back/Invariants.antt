-- What each loop of `back` keeps.
use Rattle.words.proofs.Loops.{Ran}
use Rattle.solve_blocks.specs.Entries.{three}
use Rattle.solve_blocks.specs.Newton.{back_at}
use Rattle.solve_blocks.proofs.ThreeLaws.{ThreeLong}
use Rattle.radau_core.proofs.newton.back.Given as goal

abbrev pub invariant-loop-i : goal.invariant-loop-i
invariant-loop-i l = Ran (back_at (three l.f1 l.f2 l.f3)) (ThreeLong l.n) 0 l.n l.i
    (three l.initial.z1 l.initial.z2 l.initial.z3) (three l.z1 l.z2 l.z3)
