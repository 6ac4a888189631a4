-- `check_ranges` meets its contract.
use Rattle.opening.proofs.RowLaws.{passes, stops}
use Rattle.opening.proofs.checks.check_ranges.Goals as goal

pub returns-in_err-refuse : goal.returns-in_err-refuse
returns-in_err-refuse c =
    stops _ _ c.refuse.ensures c.in_err-refuse.was c.from_residual.ensures.1

pub returns-in_err-refuse-2 : goal.returns-in_err-refuse-2
returns-in_err-refuse-2 c =
    passes _ _ c.refuse.ensures c.in_ok-refuse.was
    (stops _ _ c.refuse-2.ensures c.in_err-refuse-2.was c.from_residual-in_err-refuse-2.ensures.1)

pub returns-in_err-refuse-3 : goal.returns-in_err-refuse-3
returns-in_err-refuse-3 c =
    passes _ _ c.refuse.ensures c.in_ok-refuse.was
    (passes _ _ c.refuse-2.ensures c.in_ok-refuse-2.was
    (stops _ _ c.refuse-3.ensures c.in_err-refuse-3.was c.from_residual-in_err-refuse-3.ensures.1))

pub returns-in_err-refuse-4 : goal.returns-in_err-refuse-4
returns-in_err-refuse-4 c =
    passes _ _ c.refuse.ensures c.in_ok-refuse.was
    (passes _ _ c.refuse-2.ensures c.in_ok-refuse-2.was
    (passes _ _ c.refuse-3.ensures c.in_ok-refuse-3.was
    (stops _ _ c.refuse-4.ensures c.in_err-refuse-4.was c.from_residual-in_err-refuse-4.ensures.1)))

pub returns : goal.returns
returns c =
    passes _ _ c.refuse.ensures c.in_ok-refuse.was
    (passes _ _ c.refuse-2.ensures c.in_ok-refuse-2.was
    (passes _ _ c.refuse-3.ensures c.in_ok-refuse-3.was
    (passes _ _ c.refuse-4.ensures c.in_ok-refuse-4.was
    (c.refuse-5.ensures))))
