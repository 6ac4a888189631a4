-- `built` meets its contract: each of its two ways leaves what the definition leaves.
use mathlib.Core.Path.{◌∙◌}
use Rattle.solve_blocks.proofs.ReorderedLaws.{full-built, identity-built}
use Rattle.radau_core.proofs.matrices.built.Goals as goal

pub returns-in-Identity : goal.returns-in-Identity
returns-in-Identity c = rw c.in-Identity.is (c.build_identity.ensures ∙ identity-built _ _ _ _ _)

pub returns-in-Full : goal.returns-in-Full
returns-in-Full c = rw c.in-Full.is (c.build_full.ensures ∙ full-built _ _ _ _ _)
