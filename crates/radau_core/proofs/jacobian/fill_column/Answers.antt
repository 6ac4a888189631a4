-- `fill_column` meets its contract: its loop is the definition's.
use mathlib.Core.Path.{refl}
use native.Mathlib.Omega.{arith}
use Rattle.words.proofs.Loops.{begun, turned, ended}
use Rattle.solve_blocks.specs.Jacobian.{column_at}
use Rattle.radau_core.proofs.jacobian.fill_column.Goals as goal

pub loop-row-init : goal.loop-row-init
loop-row-init c = begun (omega arith) c.requires.3 refl

pub loop-row-preserved : goal.loop-row-preserved
unfolding column_at
loop-row-preserved c = turned c.loop-row.invariant (omega arith) (omega arith)
    (rw c.store.ensures)

pub returns : goal.returns
returns c = ended c.loop-row.invariant c.loop-row-test.false
