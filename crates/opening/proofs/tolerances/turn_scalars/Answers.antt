-- `turn_scalars` meets its contract: its loop is the definition's, whose turns don't depend on their number.
use mathlib.Core.Path.{refl}
use native.Mathlib.Omega.{arith}
use Rattle.words.proofs.Loops.{begun, turned, ended}
use Rattle.opening.specs.Tolerances.{turn_at}
use Rattle.opening.proofs.tolerances.turn_scalars.Goals as goal

pub loop-init : goal.loop-init
loop-init c = begun (omega arith) tt refl

pub loop-preserved : goal.loop-preserved
unfolding turn_at
loop-preserved c = turned c.loop.invariant (omega arith) tt c.turn-q.ensures

pub returns : goal.returns
returns c = ended c.loop.invariant c.loop-test.false
