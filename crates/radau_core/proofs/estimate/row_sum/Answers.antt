-- `row_sum` meets its contract: its loop is the definition's.
use mathlib.Core.Path.{refl}
use native.Mathlib.Omega.{arith}
use Rattle.words.proofs.Loops.{begun, turned, ended}
use Rattle.solve_blocks.specs.Estimate.{row_at, row_sum}
use Rattle.radau_core.proofs.estimate.row_sum.Goals as goal

pub loop-j-init : goal.loop-j-init
loop-j-init c = begun (omega arith) tt refl

pub loop-j-preserved : goal.loop-j-preserved
unfolding row_at
loop-j-preserved c = turned c.loop-j.invariant (omega arith) tt (rw c.mass_at.ensures)

pub returns : goal.returns
unfolding row_sum
returns c = ended c.loop-j.invariant c.loop-j-test.false
