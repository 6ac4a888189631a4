-- `identity_sides` meets its contract: its loop is the definition's, over both lists at once.
use mathlib.Core.Path.{refl}
use native.Mathlib.Omega.{arith}
use lib.ListN.{length-set}
use Rattle.words.proofs.Loops.{begun, turned, ended}
use Rattle.solve_blocks.specs.Reordered.{identity_side_at}
use Rattle.radau_core.proofs.estimate.identity_sides.Goals as goal

pub loop-i-init : goal.loop-i-init
loop-i-init c = begun (omega arith) (record { first = refl; second = refl }) refl

pub loop-i-preserved : goal.loop-i-preserved
unfolding identity_side_at
loop-i-preserved c = turned c.loop-i.invariant (omega arith)
    (record { first = simp length-set (omega arith); second = simp length-set (omega arith) }) refl

pub returns : goal.returns
returns c = ended c.loop-i.invariant c.loop-i-test.false
