-- `opened` meets its contract: the answer to the opening settles which side is taken.
use Rattle.reports.proofs.BeginLaws.{opened-refused, opened-asked}
use Rattle.reports.proofs.beginning.opened.Goals as goal

pub returns-in-Err : goal.returns-in-Err
returns-in-Err c = let a = c.args in
    opened-refused a.heading a.amounts.now c.amounts_from.ensures c.task_from-task.ensures
    c.start.ensures _ c.in-Err.is

pub returns-in-Ok : goal.returns-in-Ok
returns-in-Ok c = let a = c.args in
    opened-asked a.heading a.amounts.now c.amounts_from.ensures c.task_from-task.ensures
    c.start.ensures _ _ _ c.in-Ok.is
