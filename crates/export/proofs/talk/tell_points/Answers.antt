-- `tell_points` meets its contract.
use Rattle.export.proofs.talk.tell_points.Goals as goal

pub returns-in-Derivative : goal.returns-in-Derivative
returns-in-Derivative c = rw c.in-Derivative.is

pub returns-in-Jacobian : goal.returns-in-Jacobian
returns-in-Jacobian c = rw c.in-Jacobian.is

pub returns-in-Report : goal.returns-in-Report
returns-in-Report c = rw c.in-Report.is

pub returns-in-Ended : goal.returns-in-Ended
returns-in-Ended c = rw c.in-Ended.is
