-- `mass_add` meets its contract: the short way, where f1, f2, f3 are finite under Identity, leaves what the sums leave.
use mathlib.Core.Path.{◌∙◌}
use Rattle.solve_blocks.proofs.ReorderedLaws.{identity-adds}
use Rattle.radau_core.proofs.newton.mass_add.Goals as goal

pub returns-then-all_finite : goal.returns-then-all_finite
returns-then-all_finite c = rw c.in-Identity.is
    (c.identity_add.ensures
    ∙ identity-adds _ _ _
    (rw (
      ← c.all_finite.ensures,
      ← c.all_finite-in-Identity.ensures,
      ← c.all_finite-in-Identity-2.ensures,
    )
    c.if-all_finite.true)
    _ _ _ _)

pub returns : goal.returns
returns c = c.literal_add.ensures
