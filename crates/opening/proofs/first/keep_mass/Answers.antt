-- `keep_mass` meets its contract.
use Rattle.opening.specs.Opening.{mass_kept}
use Rattle.opening.proofs.first.keep_mass.Goals as goal

pub returns-in-Identity : goal.returns-in-Identity
unfolding mass_kept
returns-in-Identity c = rw c.in-Identity.is c.zero.ensures

pub returns-in-Full : goal.returns-in-Full
unfolding mass_kept
returns-in-Full c = rw c.in-Full.is
