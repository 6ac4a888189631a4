-- `is_end` meets its contract.
use borrow.Author.Rules.{rules}
use Rattle.history.specs.Host.{is_end}
use Rattle.model_run.proofs.lent.is_end.Goals as goal

pub returns-in-Derivative : goal.returns-in-Derivative
unfolding is_end
returns-in-Derivative c = search rules

pub returns-in-Jacobian : goal.returns-in-Jacobian
unfolding is_end
returns-in-Jacobian c = search rules

pub returns-in-Report : goal.returns-in-Report
unfolding is_end
returns-in-Report c = search rules

pub returns-in-Ended : goal.returns-in-Ended
unfolding is_end
returns-in-Ended c = search rules
