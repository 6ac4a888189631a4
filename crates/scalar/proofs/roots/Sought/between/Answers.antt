-- `between` meets its contract. Its loop keeps two ends between which the root's pattern lies,
-- and they end as neighbours.
use mathlib.Core.Path.{sym, ◌∙◌}
use native.Mathlib.Omega.{arith}
use Rattle.scalar.proofs.RootSteps.{moved_up, moved_down, neighbours}
use Rattle.scalar.proofs.roots.Sought.between.Goals as goal

pub loop-high-init : goal.loop-high-init
loop-high-init c = c.requires

pub loop-high-preserved-then-keeps : goal.loop-high-preserved-then-keeps
loop-high-preserved-then-keeps c = moved_up _ _ _ _ c.loop-high.invariant _ (omega arith)
    (sym c.keeps.ensures ∙ c.if-keeps.true)

pub loop-high-preserved : goal.loop-high-preserved
loop-high-preserved c = moved_down _ _ _ _ c.loop-high.invariant _ (omega arith) (omega arith)
    (sym c.keeps.ensures ∙ c.if-keeps.false)

pub returns : goal.returns
returns c = c.number.ensures ∙ neighbours _ _ _ _ c.loop-high.invariant (omega arith)
