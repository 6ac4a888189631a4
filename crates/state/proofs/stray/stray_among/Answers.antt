-- `stray_among` meets its contract.
use mathlib.Core.Path.{refl}
use native.Mathlib.Omega.{arith}
use Rattle.words.proofs.Loops.{begun, turned, ended}
use Rattle.state.specs.Pivots.{stray_at}
use Rattle.state.proofs.stray.stray_among.Goals as goal

pub loop-k-init : goal.loop-k-init
loop-k-init c = begun (omega arith) tt refl

pub loop-k-preserved : goal.loop-k-preserved
unfolding stray_at
loop-k-preserved c = turned c.loop-k.invariant (omega arith) tt refl

pub returns : goal.returns
returns c = ended c.loop-k.invariant c.loop-k-test.false
