-- `turn_lists` meets its contract: its loop is the definition's, over both lists at once.
use mathlib.Core.Path.{refl}
use native.Mathlib.Omega.{arith}
use lib.ListN.{length-set}
use Rattle.words.proofs.Loops.{begun, turned, ended}
use Rattle.opening.specs.Tolerances.{turn_at, list_turn_at}
use Rattle.opening.proofs.tolerances.turn_lists.Goals as goal

pub loop-i-init : goal.loop-i-init
loop-i-init c = begun (omega arith) (record { rtols = refl; atols = refl }) refl

pub loop-i-preserved : goal.loop-i-preserved
unfolding list_turn_at turn_at
loop-i-preserved c = turned c.loop-i.invariant (omega arith)
    (record { rtols = simp length-set (omega arith); atols = simp length-set (omega arith) }) (rw c.turn-p.ensures)

pub returns : goal.returns
returns c = ended c.loop-i.invariant c.loop-i-test.false
