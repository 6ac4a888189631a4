-- `check_tolerated` meets its contract.
use Rattle.opening.specs.Rows.{rtol_given, atol_given}
use Rattle.opening.proofs.groups.check_tolerated.Goals as goal

pub returns-in-Scalars : goal.returns-in-Scalars
unfolding rtol_given atol_given
returns-in-Scalars c = rw c.in-Scalars.is c.check_values.ensures

pub returns-in-Lists : goal.returns-in-Lists
unfolding rtol_given atol_given
returns-in-Lists c = rw c.in-Lists.is c.check_values-in-Lists.ensures
