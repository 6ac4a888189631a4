-- `moved` meets its contract: its loop is the definition's, over both lists at once.
use mathlib.Core.Path.{refl}
use native.Mathlib.Omega.{arith}
use lib.ListN.{length-set}
use Rattle.words.proofs.Loops.{begun, turned, ended}
use Rattle.solve_blocks.specs.Judge.{move_at, moved_of}
use Rattle.radau_core.proofs.judge.moved.Goals as goal

pub loop-i-init : goal.loop-i-init
loop-i-init c = begun (omega arith) (record { first = refl; second = refl }) refl

pub bounds-cont-n : goal.bounds-cont-n
bounds-cont-n c = simp length-set (omega arith)

pub bounds-cont-n-in-loop-i : goal.bounds-cont-n-in-loop-i
bounds-cont-n-in-loop-i c = simp length-set (omega arith)

pub bounds-cont-n-in-loop-i-2 : goal.bounds-cont-n-in-loop-i-2
bounds-cont-n-in-loop-i-2 c = simp length-set (omega arith)

pub loop-i-preserved : goal.loop-i-preserved
unfolding move_at
loop-i-preserved c = turned c.loop-i.invariant (omega arith)
    (record { first = simp length-set (omega arith); second = simp length-set (omega arith) }) refl

pub returns : goal.returns
unfolding moved_of
returns c = ended c.loop-i.invariant c.loop-i-test.false
