-- `answers_report` meets its contract.
use Rattle.opening.specs.Admission.{answers_report}
use Rattle.opening.proofs.admission.answers_report.Goals as goal

pub returns-in-Filled : goal.returns-in-Filled
unfolding answers_report
returns-in-Filled c = rw c.in-Filled.is

pub returns-in-Continue : goal.returns-in-Continue
unfolding answers_report
returns-in-Continue c = rw c.in-Continue.is

pub returns-in-Interrupt : goal.returns-in-Interrupt
unfolding answers_report
returns-in-Interrupt c = rw c.in-Interrupt.is

pub returns-in-Modified : goal.returns-in-Modified
unfolding answers_report
returns-in-Modified c = rw c.in-Modified.is

pub returns-in-Mark : goal.returns-in-Mark
unfolding answers_report
returns-in-Mark c = rw c.in-Mark.is
