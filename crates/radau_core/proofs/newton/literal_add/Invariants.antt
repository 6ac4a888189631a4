-- What each loop of `literal_add` keeps.
use Rattle.words.proofs.Loops.{Ran}
use Rattle.solve_blocks.specs.Entries.{three}
use Rattle.solve_blocks.specs.Newton.{mass_add_at}
use Rattle.solve_blocks.proofs.ThreeLaws.{ThreeLong}
use Rattle.radau_core.proofs.newton.literal_add.Given as goal

abbrev pub invariant-loop-i : goal.invariant-loop-i
invariant-loop-i l = Ran (mass_add_at l.mode l.n l.mass (three l.f1 l.f2 l.f3) l.fac1 l.alphn l.betan) (ThreeLong l.n)
    0 l.n
    l.i (three l.initial.z1 l.initial.z2 l.initial.z3) (three l.z1 l.z2 l.z3)
