-- `is_told` meets its contract.
use borrow.Author.Rules.{rules}
use Rattle.reports.specs.Step.{is_told}
use Rattle.reports.proofs.step.is_told.Goals as goal

pub returns-in-Derivative : goal.returns-in-Derivative
unfolding is_told
returns-in-Derivative c = search rules

pub returns-in-Jacobian : goal.returns-in-Jacobian
unfolding is_told
returns-in-Jacobian c = search rules

pub returns-in-Report : goal.returns-in-Report
unfolding is_told
returns-in-Report c = search rules

pub returns-in-Ended : goal.returns-in-Ended
unfolding is_told
returns-in-Ended c = search rules
