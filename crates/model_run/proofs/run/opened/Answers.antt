-- `opened` meets its contract: each part that it lends is the front of its array, and together they are
-- the memory of the opening.
use Rattle.model_run.proofs.Room.{zeros-fit, noughts-fit, four-small, square-small, lent_is, opened-is}
use Rattle.model_run.proofs.run.opened.Goals as goal

pub slice_bounds-open-end : goal.slice_bounds-open-end
slice_bounds-open-end c = rw c.well_formed.0.1.1.1.1.1.1.1.1.0.1.0.1 c.requires.0

pub slice_bounds-f0-end : goal.slice_bounds-f0-end
slice_bounds-f0-end c = zeros-fit c.vector-f0.ensures c.requires.0

pub slice_bounds-scal-end : goal.slice_bounds-scal-end
slice_bounds-scal-end c = zeros-fit c.vector-scal.ensures c.requires.0

pub slice_bounds-cont-end : goal.slice_bounds-cont-end
slice_bounds-cont-end c = zeros-fit c.coefficients-cont.ensures (four-small c.requires)

pub slice_bounds-z1-end : goal.slice_bounds-z1-end
slice_bounds-z1-end c = zeros-fit c.vector-z1.ensures c.requires.0

pub slice_bounds-z2-end : goal.slice_bounds-z2-end
slice_bounds-z2-end c = zeros-fit c.vector-z2.ensures c.requires.0

pub slice_bounds-z3-end : goal.slice_bounds-z3-end
slice_bounds-z3-end c = zeros-fit c.vector-z3.ensures c.requires.0

pub slice_bounds-f1-end : goal.slice_bounds-f1-end
slice_bounds-f1-end c = zeros-fit c.vector-f1.ensures c.requires.0

pub slice_bounds-f2-end : goal.slice_bounds-f2-end
slice_bounds-f2-end c = zeros-fit c.vector-f2.ensures c.requires.0

pub slice_bounds-f3-end : goal.slice_bounds-f3-end
slice_bounds-f3-end c = zeros-fit c.vector-f3.ensures c.requires.0

pub slice_bounds-rtol-end : goal.slice_bounds-rtol-end
slice_bounds-rtol-end c = zeros-fit c.vector-rtol.ensures c.requires.0

pub slice_bounds-atol-end : goal.slice_bounds-atol-end
slice_bounds-atol-end c = zeros-fit c.vector-atol.ensures c.requires.0

pub slice_bounds-mass-end : goal.slice_bounds-mass-end
slice_bounds-mass-end c = zeros-fit c.matrix-mass.ensures (square-small c.requires)

pub slice_bounds-jac-end : goal.slice_bounds-jac-end
slice_bounds-jac-end c = zeros-fit c.matrix-jac.ensures (square-small c.requires)

pub slice_bounds-e1-end : goal.slice_bounds-e1-end
slice_bounds-e1-end c = zeros-fit c.matrix-e1.ensures (square-small c.requires)

pub slice_bounds-e2r-end : goal.slice_bounds-e2r-end
slice_bounds-e2r-end c = zeros-fit c.matrix-e2r.ensures (square-small c.requires)

pub slice_bounds-e2i-end : goal.slice_bounds-e2i-end
slice_bounds-e2i-end c = zeros-fit c.matrix-e2i.ensures (square-small c.requires)

pub slice_bounds-ip1-end : goal.slice_bounds-ip1-end
slice_bounds-ip1-end c = noughts-fit c.pivots-ip1.ensures c.requires.0

pub slice_bounds-ip2-end : goal.slice_bounds-ip2-end
slice_bounds-ip2-end c = noughts-fit c.pivots-ip2.ensures c.requires.0

pub slice_bounds-y_perturbed-end : goal.slice_bounds-y_perturbed-end
slice_bounds-y_perturbed-end c = zeros-fit c.vector-y_perturbed.ensures c.requires.0

pub slice_bounds-f_perturbed-end : goal.slice_bounds-f_perturbed-end
slice_bounds-f_perturbed-end c = zeros-fit c.vector-f_perturbed.ensures c.requires.0

pub slice_bounds-f_origin-end : goal.slice_bounds-f_origin-end
slice_bounds-f_origin-end c = zeros-fit c.vector-f_origin.ensures c.requires.0

pub returns : goal.returns
returns c = opened-is c.args.task
    (lent_is c.args.task c.requires c.vector-f0.ensures
    c.vector-scal.ensures
    c.coefficients-cont.ensures
    c.vector-z1.ensures
    c.vector-z2.ensures
    c.vector-z3.ensures
    c.vector-f1.ensures
    c.vector-f2.ensures
    c.vector-f3.ensures
    c.vector-rtol.ensures
    c.vector-atol.ensures
    c.matrix-mass.ensures
    c.matrix-jac.ensures
    c.matrix-e1.ensures
    c.matrix-e2r.ensures
    c.matrix-e2i.ensures c.pivots-ip1.ensures
    c.pivots-ip2.ensures c.vector-y_perturbed.ensures c.vector-f_perturbed.ensures
    c.vector-f_origin.ensures)
    c.«open».ensures
