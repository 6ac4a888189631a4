-- `check_reply` meets its contract.
use Rattle.opening.proofs.RowLaws.{passes, stops}
use Rattle.opening.proofs.admission.check_reply.Goals as goal

pub returns-in_err-refuse : goal.returns-in_err-refuse
returns-in_err-refuse c =
    rw (← c.asking_at-asked.ensures)
    (stops _ _ c.refuse.ensures c.in_err-refuse.was c.from_residual.ensures.1)

pub returns : goal.returns
returns c =
    rw (← c.asking_at-asked.ensures, ← c.answers_report.ensures)
    (passes _ _ c.refuse.ensures c.in_ok-refuse.was
    (c.refuse-2.ensures))
