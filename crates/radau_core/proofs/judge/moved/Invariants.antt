-- What each loop of `moved` keeps.
use Rattle.words.proofs.Loops.{Ran}
use Rattle.solve_blocks.specs.Entries.{three}
use Rattle.solve_blocks.specs.Judge.{Moved, moved, move_at}
use Rattle.solve_blocks.proofs.JudgeLaws.{Both}
use Rattle.radau_core.proofs.judge.moved.Given as goal

abbrev pub invariant-loop-i : goal.invariant-loop-i
invariant-loop-i l = Ran (move_at l.n (three l.z1 l.z2 l.z3))
    (λ (m : Moved). Both m.y m.cont l.initial.y l.initial.cont)
    0 l.n l.i (moved l.initial.y l.initial.cont) (moved l.y l.cont)
