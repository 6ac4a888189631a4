-- `check_given` meets its contract.
use Rattle.opening.specs.Rows.{mass_given}
use Rattle.opening.proofs.groups.check_given.Goals as goal

pub returns-in-Identity : goal.returns-in-Identity
unfolding mass_given
returns-in-Identity c = rw c.in-Identity.is c.check_tolerated.ensures

pub returns-in-Full : goal.returns-in-Full
unfolding mass_given
returns-in-Full c = rw c.in-Full.is c.check_tolerated-in-Full.ensures
