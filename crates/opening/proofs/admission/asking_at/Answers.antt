-- `asking_at` meets its contract.
use Rattle.opening.specs.Admission.{asking_at}
use Rattle.opening.proofs.admission.asking_at.Goals as goal

pub returns-in-FirstDerivative : goal.returns-in-FirstDerivative
unfolding asking_at
returns-in-FirstDerivative c = rw c.in-FirstDerivative.is c.entry.ensures

pub returns-in-FirstReport : goal.returns-in-FirstReport
unfolding asking_at
returns-in-FirstReport c = rw c.in-FirstReport.is c.entry-in-FirstReport.ensures

pub returns-in-FirstDerivativeAgain : goal.returns-in-FirstDerivativeAgain
unfolding asking_at
returns-in-FirstDerivativeAgain c = rw c.in-FirstDerivativeAgain.is c.entry-in-FirstDerivativeAgain.ensures

pub returns-in-Jacobian : goal.returns-in-Jacobian
unfolding asking_at
returns-in-Jacobian c = rw c.in-Jacobian.is c.entry-in-Jacobian.ensures

pub returns-in-Column : goal.returns-in-Column
unfolding asking_at
returns-in-Column c = rw c.in-Column.is c.entry-in-Column.ensures

pub returns-in-Newton1 : goal.returns-in-Newton1
unfolding asking_at
returns-in-Newton1 c = rw c.in-Newton1.is c.entry-in-Newton1.ensures

pub returns-in-Newton2 : goal.returns-in-Newton2
unfolding asking_at
returns-in-Newton2 c = rw c.in-Newton2.is c.entry-in-Newton2.ensures

pub returns-in-Newton3 : goal.returns-in-Newton3
unfolding asking_at
returns-in-Newton3 c = rw c.in-Newton3.is c.entry-in-Newton3.ensures

pub returns-in-Refinement : goal.returns-in-Refinement
unfolding asking_at
returns-in-Refinement c = rw c.in-Refinement.is c.entry-in-Refinement.ensures

pub returns-in-Accepted : goal.returns-in-Accepted
unfolding asking_at
returns-in-Accepted c = rw c.in-Accepted.is c.entry-in-Accepted.ensures

pub returns-in-Report : goal.returns-in-Report
unfolding asking_at
returns-in-Report c = rw c.in-Report.is c.entry-in-Report.ensures

pub returns-in-DerivativeAgain : goal.returns-in-DerivativeAgain
unfolding asking_at
returns-in-DerivativeAgain c = rw c.in-DerivativeAgain.is c.entry-in-DerivativeAgain.ensures

pub returns-in-Ended : goal.returns-in-Ended
unfolding asking_at
returns-in-Ended c = rw c.in-Ended.is c.entry-in-Ended.ensures
