-- `copy` meets its contract: a turn copies one more entry.
use Rattle.solve_blocks.proofs.JacobianLaws.{copying, copied_next, copied}
use Rattle.radau_core.proofs.jacobian.copy.Goals as goal

pub loop-i-init : goal.loop-i-init
loop-i-init c = copying c.requires

pub loop-i-preserved : goal.loop-i-preserved
loop-i-preserved c = copied_next c.loop-i.invariant c.loop-i-test.true

pub returns : goal.returns
returns c = copied c.loop-i.invariant c.loop-i-test.false
