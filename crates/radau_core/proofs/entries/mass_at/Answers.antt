-- `mass_at` meets its contract.
use borrow.Author.Tests.{eq-eqb, ne_eqb}
use Rattle.words.proofs.Branch.{pick_yes, pick_no}
use Rattle.solve_blocks.specs.Entries.{mass_at}
use Rattle.radau_core.proofs.entries.mass_at.Goals as goal

pub returns-then-r-c : goal.returns-then-r-c
unfolding mass_at
returns-then-r-c c = rw (c.in-Identity.is, pick_yes _ _ (eq-eqb _ _ c.if-r-c.true))

pub returns-else-r-c : goal.returns-else-r-c
unfolding mass_at
returns-else-r-c c = rw (c.in-Identity.is, pick_no _ _ (ne_eqb _ _ c.if-r-c.false))

pub returns-in-Full : goal.returns-in-Full
unfolding mass_at
returns-in-Full c = rw c.in-Full.is c.entry.ensures
