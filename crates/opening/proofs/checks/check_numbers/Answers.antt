-- `check_numbers` meets its contract.
use Rattle.opening.proofs.RowLaws.{passes, stops}
use Rattle.opening.proofs.checks.check_numbers.Goals as goal

pub returns-in_err-refuse_number : goal.returns-in_err-refuse_number
returns-in_err-refuse_number c =
    stops _ _ c.refuse_number.ensures c.in_err-refuse_number.was c.from_residual.ensures.1

pub returns-in_err-refuse_number-2 : goal.returns-in_err-refuse_number-2
returns-in_err-refuse_number-2 c =
    passes _ _ c.refuse_number.ensures c.in_ok-refuse_number.was
    (stops _ _ c.refuse_number-2.ensures c.in_err-refuse_number-2.was c.from_residual-in_err-refuse_number-2.ensures.1)

pub returns-in_err-refuse_number-3 : goal.returns-in_err-refuse_number-3
returns-in_err-refuse_number-3 c =
    passes _ _ c.refuse_number.ensures c.in_ok-refuse_number.was
    (passes _ _ c.refuse_number-2.ensures c.in_ok-refuse_number-2.was
    (stops _ _ c.refuse_number-3.ensures c.in_err-refuse_number-3.was c.from_residual-in_err-refuse_number-3.ensures.1))

pub returns-in_err-refuse_number-4 : goal.returns-in_err-refuse_number-4
returns-in_err-refuse_number-4 c =
    passes _ _ c.refuse_number.ensures c.in_ok-refuse_number.was
    (passes _ _ c.refuse_number-2.ensures c.in_ok-refuse_number-2.was
    (passes _ _ c.refuse_number-3.ensures c.in_ok-refuse_number-3.was
    (stops _ _ c.refuse_number-4.ensures c.in_err-refuse_number-4.was
    c.from_residual-in_err-refuse_number-4.ensures.1)))

pub returns-in_err-refuse_given : goal.returns-in_err-refuse_given
returns-in_err-refuse_given c =
    passes _ _ c.refuse_number.ensures c.in_ok-refuse_number.was
    (passes _ _ c.refuse_number-2.ensures c.in_ok-refuse_number-2.was
    (passes _ _ c.refuse_number-3.ensures c.in_ok-refuse_number-3.was
    (passes _ _ c.refuse_number-4.ensures c.in_ok-refuse_number-4.was
    (stops _ _ c.refuse_given.ensures c.in_err-refuse_given.was c.from_residual-in_err-refuse_given.ensures.1))))

pub returns-in_err-refuse_given-2 : goal.returns-in_err-refuse_given-2
returns-in_err-refuse_given-2 c =
    passes _ _ c.refuse_number.ensures c.in_ok-refuse_number.was
    (passes _ _ c.refuse_number-2.ensures c.in_ok-refuse_number-2.was
    (passes _ _ c.refuse_number-3.ensures c.in_ok-refuse_number-3.was
    (passes _ _ c.refuse_number-4.ensures c.in_ok-refuse_number-4.was
    (passes _ _ c.refuse_given.ensures c.in_ok-refuse_given.was
    (stops _ _ c.refuse_given-2.ensures c.in_err-refuse_given-2.was c.from_residual-in_err-refuse_given-2.ensures.1)))))

pub returns-in_err-refuse_given-3 : goal.returns-in_err-refuse_given-3
returns-in_err-refuse_given-3 c =
    passes _ _ c.refuse_number.ensures c.in_ok-refuse_number.was
    (passes _ _ c.refuse_number-2.ensures c.in_ok-refuse_number-2.was
    (passes _ _ c.refuse_number-3.ensures c.in_ok-refuse_number-3.was
    (passes _ _ c.refuse_number-4.ensures c.in_ok-refuse_number-4.was
    (passes _ _ c.refuse_given.ensures c.in_ok-refuse_given.was
    (passes _ _ c.refuse_given-2.ensures c.in_ok-refuse_given-2.was
    (stops _ _ c.refuse_given-3.ensures c.in_err-refuse_given-3.was
    c.from_residual-in_err-refuse_given-3.ensures.1))))))

pub returns : goal.returns
returns c =
    passes _ _ c.refuse_number.ensures c.in_ok-refuse_number.was
    (passes _ _ c.refuse_number-2.ensures c.in_ok-refuse_number-2.was
    (passes _ _ c.refuse_number-3.ensures c.in_ok-refuse_number-3.was
    (passes _ _ c.refuse_number-4.ensures c.in_ok-refuse_number-4.was
    (passes _ _ c.refuse_given.ensures c.in_ok-refuse_given.was
    (passes _ _ c.refuse_given-2.ensures c.in_ok-refuse_given-2.was
    (passes _ _ c.refuse_given-3.ensures c.in_ok-refuse_given-3.was
    (c.refuse_given-4.ensures)))))))
