-- `is_below` meets its contract.
use Rattle.opening.specs.Rows.{given_below}
use Rattle.opening.proofs.checks.is_below.Goals as goal

pub returns-in-None : goal.returns-in-None
unfolding given_below
returns-in-None c = cc

pub returns-in-Some : goal.returns-in-Some
unfolding given_below
returns-in-Some c = cc
