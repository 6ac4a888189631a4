-- `scaled` meets its contract: its loop is the definition's.
use mathlib.Core.Path.{refl}
use native.Mathlib.Omega.{arith}
use lib.ListN.{length-set}
use Rattle.words.proofs.Loops.{begun, turned, ended}
use Rattle.solve_blocks.specs.Scale.{scale_at, scaled_of}
use Rattle.radau_core.proofs.scale.scaled.Goals as goal

pub loop-i-init : goal.loop-i-init
loop-i-init c = begun (omega arith) refl refl

pub loop-i-preserved : goal.loop-i-preserved
unfolding scale_at
loop-i-preserved c = turned c.loop-i.invariant (omega arith) (simp length-set (omega arith))
    (rw (c.abs.ensures, c.rtol_at.ensures, c.atol_at.ensures))

pub returns : goal.returns
unfolding scaled_of
returns c = ended c.loop-i.invariant c.loop-i-test.false
