-- `is_zero` meets its contract.
use Rattle.opening.specs.Rows.{given_zero}
use Rattle.opening.proofs.checks.is_zero.Goals as goal

pub returns-in-None : goal.returns-in-None
unfolding given_zero
returns-in-None c = cc

pub returns-in-Some : goal.returns-in-Some
unfolding given_zero
returns-in-Some c = cc
