-- `settled` meets its contract.
use Rattle.std.proofs.Common.{◌∙◌}
use Rattle.scalar.proofs.RootSteps.{settled}
use Rattle.scalar.proofs.roots.Sought.settled.Goals as goal

pub returns-then-not-next : goal.returns-then-not-next
returns-then-not-next c = c.number.ensures
    ∙ rw c.from.ensures (settled _ _ _ _ _ c.if-below.true c.if-not-next.true _ c.requires)
