-- `check_counts` meets its contract.
use Rattle.opening.proofs.RowLaws.{passes, stops}
use native.Mathlib.Omega.{arith}
use Rattle.opening.proofs.AdmissionLaws.{product_small}
use Rattle.opening.proofs.admission.check_counts.Goals as goal

pub overflow_mul-k-2 : goal.overflow_mul-k-2
overflow_mul-k-2 c = omega (arith, product_small _ _ c.requires.1 c.requires.0)

pub overflow_add-k-2 : goal.overflow_add-k-2
overflow_add-k-2 c = omega (arith, product_small _ _ c.requires.1 c.requires.0)

pub returns-in_err-unfit : goal.returns-in_err-unfit
returns-in_err-unfit c =
    stops _ _ c.unfit.ensures c.in_err-unfit.was c.from_residual.ensures.1

pub returns-in_err-unfit-2 : goal.returns-in_err-unfit-2
returns-in_err-unfit-2 c =
    passes _ _ c.unfit.ensures c.in_ok-unfit.was
    (stops _ _ c.unfit-2.ensures c.in_err-unfit-2.was c.from_residual-in_err-unfit-2.ensures.1)

pub returns-in_err-unfit-3 : goal.returns-in_err-unfit-3
returns-in_err-unfit-3 c =
    passes _ _ c.unfit.ensures c.in_ok-unfit.was
    (passes _ _ c.unfit-2.ensures c.in_ok-unfit-2.was
    (stops _ _ c.unfit-3.ensures c.in_err-unfit-3.was c.from_residual-in_err-unfit-3.ensures.1))

pub returns-in_err-unfit-4 : goal.returns-in_err-unfit-4
returns-in_err-unfit-4 c =
    passes _ _ c.unfit.ensures c.in_ok-unfit.was
    (passes _ _ c.unfit-2.ensures c.in_ok-unfit-2.was
    (passes _ _ c.unfit-3.ensures c.in_ok-unfit-3.was
    (stops _ _ c.unfit-4.ensures c.in_err-unfit-4.was c.from_residual-in_err-unfit-4.ensures.1)))

pub returns-in_err-unfit-5 : goal.returns-in_err-unfit-5
returns-in_err-unfit-5 c =
    passes _ _ c.unfit.ensures c.in_ok-unfit.was
    (passes _ _ c.unfit-2.ensures c.in_ok-unfit-2.was
    (passes _ _ c.unfit-3.ensures c.in_ok-unfit-3.was
    (passes _ _ c.unfit-4.ensures c.in_ok-unfit-4.was
    (stops _ _ c.unfit-5.ensures c.in_err-unfit-5.was c.from_residual-in_err-unfit-5.ensures.1))))

pub returns : goal.returns
returns c =
    rw (← c.stride_below.ensures)
    (passes _ _ c.unfit.ensures c.in_ok-unfit.was
    (passes _ _ c.unfit-2.ensures c.in_ok-unfit-2.was
    (passes _ _ c.unfit-3.ensures c.in_ok-unfit-3.was
    (passes _ _ c.unfit-4.ensures c.in_ok-unfit-4.was
    (passes _ _ c.unfit-5.ensures c.in_ok-unfit-5.was
    (c.unfit-6.ensures))))))
