-- `error_sides` meets its contract: the short way, where f1 is finite under Identity, leaves what the sums leave.
use mathlib.Core.Path.{sym, ◌∙◌}
use Rattle.solve_blocks.proofs.ReorderedLaws.{identity-sides}
use Rattle.radau_core.proofs.estimate.error_sides.Goals as goal

pub returns-then-all_finite : goal.returns-then-all_finite
returns-then-all_finite c = rw c.in-Identity.is
    (c.identity_sides.ensures
    ∙ identity-sides _ _ _ _
    (sym c.all_finite.ensures ∙ c.if-all_finite.true) _)

pub returns : goal.returns
returns c = c.literal_sides.ensures
