-- `all_finite` meets its contract: its loop is the definition's.
use mathlib.Core.Path.{refl}
use native.Mathlib.Omega.{arith}
use Rattle.words.proofs.Loops.{begun, turned, ended}
use Rattle.solve_blocks.specs.Reordered.{finite_at, all_finite}
use Rattle.radau_core.proofs.entries.all_finite.Goals as goal

pub loop-j-init : goal.loop-j-init
loop-j-init c = begun (omega arith) tt refl

pub loop-j-preserved : goal.loop-j-preserved
unfolding finite_at
loop-j-preserved c = turned c.loop-j.invariant (omega arith) tt refl

pub returns : goal.returns
unfolding all_finite
returns c = ended c.loop-j.invariant c.loop-j-test.false
