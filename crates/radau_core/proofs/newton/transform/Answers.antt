-- `transform` meets its contract: its loop is the definition's.
use mathlib.Core.Path.{refl}
use native.Mathlib.Omega.{arith}
use Rattle.words.proofs.Loops.{begun, turned, ended}
use Rattle.solve_blocks.specs.Newton.{transform_at}
use Rattle.solve_blocks.proofs.ThreeLaws.{three-set}
use Rattle.radau_core.proofs.newton.transform.Goals as goal

pub loop-i-init : goal.loop-i-init
loop-i-init c = begun (omega arith) (record {
  one = c.requires.0;
  two = c.requires.1;
  three = c.requires.2;
})
    refl

pub loop-i-preserved : goal.loop-i-preserved
unfolding transform_at
loop-i-preserved c = turned c.loop-i.invariant (omega arith)
    (three-set _ _ _ _ c.loop-i.invariant.kept)
    (rw (c.combined.ensures, c.combined-in-loop-i.ensures, c.combined-in-loop-i-2.ensures))

pub returns : goal.returns
returns c = ended c.loop-i.invariant c.loop-i-test.false
