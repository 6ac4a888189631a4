-- `check_state` meets its contract.
use Rattle.opening.proofs.RowLaws.{passes, stops}
use Rattle.opening.proofs.admission.check_state.Goals as goal

pub returns-in_err-unfit : goal.returns-in_err-unfit
returns-in_err-unfit c =
    rw (← c.asking_at-asked.ensures, ← c.sum_differs.ensures)
    (stops _ _ c.unfit.ensures c.in_err-unfit.was c.from_residual.ensures.1)

pub returns-in_err-unfit-2 : goal.returns-in_err-unfit-2
returns-in_err-unfit-2 c =
    rw (← c.asking_at-asked.ensures, ← c.sum_differs.ensures)
    (passes _ _ c.unfit.ensures c.in_ok-unfit.was
    (stops _ _ c.unfit-2.ensures c.in_err-unfit-2.was c.from_residual-in_err-unfit-2.ensures.1))

pub returns-in_err-unfit-3 : goal.returns-in_err-unfit-3
returns-in_err-unfit-3 c =
    rw (← c.asking_at-asked.ensures, ← c.sum_differs.ensures)
    (passes _ _ c.unfit.ensures c.in_ok-unfit.was
    (passes _ _ c.unfit-2.ensures c.in_ok-unfit-2.was
    (stops _ _ c.unfit-3.ensures c.in_err-unfit-3.was c.from_residual-in_err-unfit-3.ensures.1)))

pub returns-in_err-unfit-4 : goal.returns-in_err-unfit-4
returns-in_err-unfit-4 c =
    rw (← c.asking_at-asked.ensures, ← c.sum_differs.ensures)
    (passes _ _ c.unfit.ensures c.in_ok-unfit.was
    (passes _ _ c.unfit-2.ensures c.in_ok-unfit-2.was
    (passes _ _ c.unfit-3.ensures c.in_ok-unfit-3.was
    (stops _ _ c.unfit-4.ensures c.in_err-unfit-4.was c.from_residual-in_err-unfit-4.ensures.1))))

pub returns-in_err-unfit-5 : goal.returns-in_err-unfit-5
returns-in_err-unfit-5 c =
    rw (← c.asking_at-asked.ensures, ← c.sum_differs.ensures)
    (passes _ _ c.unfit.ensures c.in_ok-unfit.was
    (passes _ _ c.unfit-2.ensures c.in_ok-unfit-2.was
    (passes _ _ c.unfit-3.ensures c.in_ok-unfit-3.was
    (passes _ _ c.unfit-4.ensures c.in_ok-unfit-4.was
    (stops _ _ c.unfit-5.ensures c.in_err-unfit-5.was c.from_residual-in_err-unfit-5.ensures.1)))))

pub returns-in_err-unfit-6 : goal.returns-in_err-unfit-6
returns-in_err-unfit-6 c =
    rw (← c.asking_at-asked.ensures, ← c.sum_differs.ensures, ← c.stray_pivot.ensures)
    (passes _ _ c.unfit.ensures c.in_ok-unfit.was
    (passes _ _ c.unfit-2.ensures c.in_ok-unfit-2.was
    (passes _ _ c.unfit-3.ensures c.in_ok-unfit-3.was
    (passes _ _ c.unfit-4.ensures c.in_ok-unfit-4.was
    (passes _ _ c.unfit-5.ensures c.in_ok-unfit-5.was
    (stops _ _ c.unfit-6.ensures c.in_err-unfit-6.was c.from_residual-in_err-unfit-6.ensures.1))))))

pub returns : goal.returns
returns c =
    rw (← c.asking_at-asked.ensures, ← c.sum_differs.ensures, ← c.stray_pivot.ensures, ← c.stray_pivot-2.ensures)
    (passes _ _ c.unfit.ensures c.in_ok-unfit.was
    (passes _ _ c.unfit-2.ensures c.in_ok-unfit-2.was
    (passes _ _ c.unfit-3.ensures c.in_ok-unfit-3.was
    (passes _ _ c.unfit-4.ensures c.in_ok-unfit-4.was
    (passes _ _ c.unfit-5.ensures c.in_ok-unfit-5.was
    (passes _ _ c.unfit-6.ensures c.in_ok-unfit-6.was
    (c.unfit-7.ensures)))))))
