-- `sum` meets its contract: its loop is the definition's.
use mathlib.Core.Path.{refl}
use native.Mathlib.Omega.{arith}
use lib.ListN.{length-set}
use Rattle.words.proofs.Loops.{begun, turned, ended}
use Rattle.solve_blocks.specs.Estimate.{sum_at}
use Rattle.radau_core.proofs.estimate.sum.Goals as goal

pub loop-i-init : goal.loop-i-init
loop-i-init c = begun (omega arith) refl refl

pub loop-i-preserved : goal.loop-i-preserved
unfolding sum_at
loop-i-preserved c = turned c.loop-i.invariant (omega arith) (simp length-set (omega arith)) refl

pub returns : goal.returns
returns c = ended c.loop-i.invariant c.loop-i-test.false
