-- `norm_sum` meets its contract: its loop is the definition's.
use mathlib.Core.Path.{refl}
use native.Mathlib.Omega.{arith}
use Rattle.words.proofs.Loops.{begun, turned, ended}
use Rattle.solve_blocks.specs.Newton.{norm_at}
use Rattle.radau_core.proofs.newton.norm_sum.Goals as goal

pub loop-i-init : goal.loop-i-init
loop-i-init c = begun (omega arith) tt refl

pub loop-i-preserved : goal.loop-i-preserved
unfolding norm_at
loop-i-preserved c = turned c.loop-i.invariant (omega arith) tt (rw c.combined-sum.ensures)

pub returns : goal.returns
returns c = ended c.loop-i.invariant c.loop-i-test.false
