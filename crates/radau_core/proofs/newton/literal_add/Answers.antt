-- `literal_add` meets its contract: its loop is the definition's.
use mathlib.Core.Path.{refl}
use native.Mathlib.Omega.{arith}
use Rattle.words.proofs.Loops.{begun, turned, ended}
use Rattle.solve_blocks.specs.Newton.{mass_add_at}
use Rattle.radau_core.proofs.newton.literal_add.Goals as goal

pub loop-i-init : goal.loop-i-init
loop-i-init c = begun (omega arith) (record {
  one = c.requires.1.z1;
  two = c.requires.1.z2;
  three = c.requires.1.z3;
})
    refl

pub loop-i-preserved : goal.loop-i-preserved
unfolding mass_add_at
loop-i-preserved c = turned
    c.loop-i.invariant
    (omega arith) (omega arith) (rw (
      c.add_sums.ensures,
      c.mass_sums-s.ensures,
    ))

pub returns : goal.returns
returns c = ended c.loop-i.invariant c.loop-i-test.false
