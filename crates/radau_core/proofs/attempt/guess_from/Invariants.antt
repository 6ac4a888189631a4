-- What each loop of `guess_from` keeps.
use Rattle.words.proofs.Loops.{Ran}
use Rattle.state.specs.Memory.{newton}
use Rattle.solve_blocks.specs.Attempt.{guess_at}
use Rattle.solve_blocks.specs.Needs.{NewtonLong}
use Rattle.radau_core.proofs.attempt.guess_from.Given as goal

abbrev pub invariant-loop-i : goal.invariant-loop-i
invariant-loop-i l = Ran (guess_at l.n l.c1q l.c2q l.c3q l.cont) (NewtonLong l.n) 0 l.n l.i
    (newton l.initial.z1 l.initial.z2 l.initial.z3 l.initial.f1 l.initial.f2 l.initial.f3)
    (newton l.z1 l.z2 l.z3 l.f1 l.f2 l.f3)
