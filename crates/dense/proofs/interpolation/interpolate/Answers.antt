-- `interpolate` meets its contract. The furthest index read, 3 * n + i, lies below 4 * n, which is at most
-- the number of coefficients.
use mathlib.Core.Path.{refl, ap}
use native.Mathlib.Omega.{arith}
use lib.ListN.{length-set}
use borrow.Author.Tests.{lt-ltb, le-ltb}
use Rattle.words.proofs.Branch.{yes, no}
use Rattle.words.proofs.Loops.{begun, turned, ended}
use Rattle.std.specs.Prelude.{Ok}
use Rattle.dense.specs.Answers.{interpolation}
use Rattle.dense.specs.Interpolate.{place_of, polynomial_of, amount_of, interpolate_at, interpolate_of}
use Rattle.dense.proofs.interpolation.interpolate.Goals as goal

pub returns-then-yi-n : goal.returns-then-yi-n
unfolding interpolate_of
returns-then-yi-n c = yes _ _ _ (lt-ltb _ _ c.if-yi-n.true) refl

pub loop-i-init : goal.loop-i-init
loop-i-init c = begun (omega arith) refl refl

pub loop-i-preserved : goal.loop-i-preserved
unfolding interpolate_at amount_of polynomial_of
loop-i-preserved c = turned c.loop-i.invariant (omega arith) (simp length-set (omega arith)) refl

pub returns : goal.returns
unfolding interpolate_of place_of
returns c = no _ _ _ (le-ltb _ _ c.if-yi-n.false)
    (ap (interpolation (Ok tt)) (ended c.loop-i.invariant c.loop-i-test.false))
