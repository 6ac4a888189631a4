-- `check_values` meets its contract.
use Rattle.opening.proofs.RowLaws.{passes, stops}
use Rattle.opening.proofs.checks.check_values.Goals as goal

pub returns-in_err-check_ends : goal.returns-in_err-check_ends
returns-in_err-check_ends c =
    stops _ _ c.check_ends.ensures c.in_err-check_ends.was c.from_residual.ensures.1

pub returns-in_err-check_lists : goal.returns-in_err-check_lists
returns-in_err-check_lists c =
    passes _ _ c.check_ends.ensures c.in_ok-check_ends.was
    (stops _ _ c.check_lists.ensures c.in_err-check_lists.was c.from_residual-in_err-check_lists.ensures.1)

pub returns-in_err-check_numbers : goal.returns-in_err-check_numbers
returns-in_err-check_numbers c =
    passes _ _ c.check_ends.ensures c.in_ok-check_ends.was
    (passes _ _ c.check_lists.ensures c.in_ok-check_lists.was
    (stops _ _ c.check_numbers.ensures c.in_err-check_numbers.was c.from_residual-in_err-check_numbers.ensures.1))

pub returns-in_err-check_ranges : goal.returns-in_err-check_ranges
returns-in_err-check_ranges c =
    passes _ _ c.check_ends.ensures c.in_ok-check_ends.was
    (passes _ _ c.check_lists.ensures c.in_ok-check_lists.was
    (passes _ _ c.check_numbers.ensures c.in_ok-check_numbers.was
    (stops _ _ c.check_ranges.ensures c.in_err-check_ranges.was c.from_residual-in_err-check_ranges.ensures.1)))

pub returns-in_err-check_tolerances : goal.returns-in_err-check_tolerances
returns-in_err-check_tolerances c =
    passes _ _ c.check_ends.ensures c.in_ok-check_ends.was
    (passes _ _ c.check_lists.ensures c.in_ok-check_lists.was
    (passes _ _ c.check_numbers.ensures c.in_ok-check_numbers.was
    (passes _ _ c.check_ranges.ensures c.in_ok-check_ranges.was
    (stops _ _ c.check_tolerances.ensures c.in_err-check_tolerances.was
    c.from_residual-in_err-check_tolerances.ensures.1))))

pub returns : goal.returns
returns c =
    passes _ _ c.check_ends.ensures c.in_ok-check_ends.was
    (passes _ _ c.check_lists.ensures c.in_ok-check_lists.was
    (passes _ _ c.check_numbers.ensures c.in_ok-check_numbers.was
    (passes _ _ c.check_ranges.ensures c.in_ok-check_ranges.was
    (passes _ _ c.check_tolerances.ensures c.in_ok-check_tolerances.was
    (c.check_steps.ensures)))))
