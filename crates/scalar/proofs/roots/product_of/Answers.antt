-- `product_of` meets its contract: its loop is the definition's.
use mathlib.Core.Path.{refl}
use native.Mathlib.Omega.{arith}
use Rattle.words.proofs.Loops.{begun, turned, ended}
use Rattle.scalar.specs.Products.{times_at, product}
use Rattle.scalar.proofs.roots.product_of.Goals as goal

pub loop-init : goal.loop-init
loop-init c = begun (omega arith) tt refl

pub loop-preserved : goal.loop-preserved
unfolding times_at
loop-preserved c = turned c.loop.invariant (omega arith) tt refl

pub returns : goal.returns
unfolding product
returns c = ended c.loop.invariant c.loop-test.false
