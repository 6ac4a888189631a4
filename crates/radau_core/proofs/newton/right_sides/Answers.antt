-- `right_sides` meets its contract.
use borrow.Author.Rules.{rules}
use Rattle.solve_blocks.specs.Newton.{right_sides}
use Rattle.radau_core.proofs.newton.right_sides.Goals as goal

pub mass_add-requires : goal.mass_add-requires
mass_add-requires c = (
  c.requires.0,
  search rules,
)

pub returns : goal.returns
unfolding right_sides
returns c = rw (c.mass_add.ensures, c.transform.ensures)
