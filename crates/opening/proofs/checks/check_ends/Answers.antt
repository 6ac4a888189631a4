-- `check_ends` meets its contract.
use Rattle.opening.proofs.RowLaws.{passes, stops}
use Rattle.opening.proofs.checks.check_ends.Goals as goal

pub returns-in_err-refuse_number : goal.returns-in_err-refuse_number
returns-in_err-refuse_number c =
    stops _ _ c.refuse_number.ensures c.in_err-refuse_number.was c.from_residual.ensures.1

pub returns : goal.returns
returns c =
    passes _ _ c.refuse_number.ensures c.in_ok-refuse_number.was
    (c.refuse_number-2.ensures)
