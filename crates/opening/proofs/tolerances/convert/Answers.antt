-- `convert` meets its contract.
use Rattle.opening.proofs.ToleranceLaws.{by-scalars, by-lists}
use Rattle.opening.proofs.tolerances.convert.Goals as goal

pub returns-in-Scalars : goal.returns-in-Scalars
returns-in-Scalars c = by-scalars _ _ _ _ _ _ _ _ _ _ _
    c.in-Scalars.is
    c.scalar_turns.ensures
    c.turn_scalars-p.ensures
    c.zero.ensures
    c.zero-in-Scalars.ensures
    c.requires.1
    c.requires.2

pub returns-in-Lists : goal.returns-in-Lists
returns-in-Lists c = by-lists _ _ _ _ _ _ _ c.in-Lists.is
    c.turn_lists.ensures
