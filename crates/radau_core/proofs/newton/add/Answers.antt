-- `add` meets its contract: its loop is the definition's.
use mathlib.Core.Path.{refl}
use native.Mathlib.Omega.{arith}
use Rattle.words.proofs.Loops.{begun, turned, ended}
use Rattle.solve_blocks.specs.Newton.{add_at}
use Rattle.solve_blocks.proofs.ThreeLaws.{three-set}
use Rattle.radau_core.proofs.newton.add.Goals as goal

pub loop-i-init : goal.loop-i-init
loop-i-init c = begun (omega arith) (record { one = c.requires.f1; two = c.requires.f2; three = c.requires.f3 }) refl

pub loop-i-preserved : goal.loop-i-preserved
unfolding add_at
loop-i-preserved c = turned c.loop-i.invariant (omega arith)
    (three-set _ _ _ _ c.loop-i.invariant.kept) refl

pub returns : goal.returns
returns c = ended c.loop-i.invariant c.loop-i-test.false
