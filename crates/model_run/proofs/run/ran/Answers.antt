-- `ran` meets its contract: each part that it lends is the front of its array, and behind the amounts
-- stands what was not lent.
use Rattle.model_run.proofs.Room.{zeros-fit, noughts-fit, four-small, square-small}
use Rattle.model_run.proofs.Room.{lent_is, none_lent, ran-is}
use Rattle.model_run.proofs.run.ran.Goals as goal

pub slice_bounds-y-end : goal.slice_bounds-y-end
slice_bounds-y-end c = rw c.well_formed.0.1.1.1.1.1.1.1.1.0.1.0.1
    c.requires.n_bound.0

pub slice_bounds-f0-end : goal.slice_bounds-f0-end
slice_bounds-f0-end c = zeros-fit c.vector-f0.ensures c.requires.n_bound.0

pub slice_bounds-scal-end : goal.slice_bounds-scal-end
slice_bounds-scal-end c = zeros-fit c.vector-scal.ensures c.requires.n_bound.0

pub slice_bounds-cont-end : goal.slice_bounds-cont-end
slice_bounds-cont-end c = zeros-fit c.coefficients-cont.ensures (four-small c.requires.n_bound)

pub slice_bounds-z1-end : goal.slice_bounds-z1-end
slice_bounds-z1-end c = zeros-fit c.vector-z1.ensures c.requires.n_bound.0

pub slice_bounds-z2-end : goal.slice_bounds-z2-end
slice_bounds-z2-end c = zeros-fit c.vector-z2.ensures c.requires.n_bound.0

pub slice_bounds-z3-end : goal.slice_bounds-z3-end
slice_bounds-z3-end c = zeros-fit c.vector-z3.ensures c.requires.n_bound.0

pub slice_bounds-f1-end : goal.slice_bounds-f1-end
slice_bounds-f1-end c = zeros-fit c.vector-f1.ensures c.requires.n_bound.0

pub slice_bounds-f2-end : goal.slice_bounds-f2-end
slice_bounds-f2-end c = zeros-fit c.vector-f2.ensures c.requires.n_bound.0

pub slice_bounds-f3-end : goal.slice_bounds-f3-end
slice_bounds-f3-end c = zeros-fit c.vector-f3.ensures c.requires.n_bound.0

pub slice_bounds-to_end-end : goal.slice_bounds-to_end-end
slice_bounds-to_end-end c = zeros-fit c.vector-rtol.ensures c.requires.n_bound.0

pub slice_bounds-to_end-end-2 : goal.slice_bounds-to_end-end-2
slice_bounds-to_end-end-2 c = zeros-fit c.vector-atol.ensures c.requires.n_bound.0

pub slice_bounds-to_end-end-3 : goal.slice_bounds-to_end-end-3
slice_bounds-to_end-end-3 c = zeros-fit c.matrix-mass.ensures (square-small c.requires.n_bound)

pub slice_bounds-jac-end : goal.slice_bounds-jac-end
slice_bounds-jac-end c = zeros-fit c.matrix-jac.ensures (square-small c.requires.n_bound)

pub slice_bounds-e1-end : goal.slice_bounds-e1-end
slice_bounds-e1-end c = zeros-fit c.matrix-e1.ensures (square-small c.requires.n_bound)

pub slice_bounds-e2r-end : goal.slice_bounds-e2r-end
slice_bounds-e2r-end c = zeros-fit c.matrix-e2r.ensures (square-small c.requires.n_bound)

pub slice_bounds-e2i-end : goal.slice_bounds-e2i-end
slice_bounds-e2i-end c = zeros-fit c.matrix-e2i.ensures (square-small c.requires.n_bound)

pub slice_bounds-ip1-end : goal.slice_bounds-ip1-end
slice_bounds-ip1-end c = noughts-fit c.pivots-ip1.ensures c.requires.n_bound.0

pub slice_bounds-ip2-end : goal.slice_bounds-ip2-end
slice_bounds-ip2-end c = noughts-fit c.pivots-ip2.ensures c.requires.n_bound.0

pub slice_bounds-y_perturbed-end : goal.slice_bounds-y_perturbed-end
slice_bounds-y_perturbed-end c = zeros-fit c.vector-y_perturbed.ensures c.requires.n_bound.0

pub slice_bounds-f_perturbed-end : goal.slice_bounds-f_perturbed-end
slice_bounds-f_perturbed-end c = zeros-fit c.vector-f_perturbed.ensures c.requires.n_bound.0

pub slice_bounds-f_origin-end : goal.slice_bounds-f_origin-end
slice_bounds-f_origin-end c = zeros-fit c.vector-f_origin.ensures c.requires.n_bound.0

pub to_end-run-requires : goal.to_end-run-requires
to_end-run-requires c =
    let lent =
    lent_is c.args.task c.requires.n_bound
    c.vector-f0.ensures c.vector-scal.ensures c.coefficients-cont.ensures c.vector-z1.ensures c.vector-z2.ensures
    c.vector-z3.ensures c.vector-f1.ensures
    c.vector-f2.ensures c.vector-f3.ensures c.vector-rtol.ensures c.vector-atol.ensures c.matrix-mass.ensures
    c.matrix-jac.ensures c.matrix-e1.ensures
    c.matrix-e2r.ensures c.matrix-e2i.ensures c.pivots-ip1.ensures c.pivots-ip2.ensures c.vector-y_perturbed.ensures
    c.vector-f_perturbed.ensures c.vector-f_origin.ensures in
    none_lent c.args.task c.args.rates.now c.args.species.now c.args.pending.run c.args.pending.request
    c.args.pending.place lent c.requires.none_refused

pub returns : goal.returns
returns c =
    let lent =
    lent_is c.args.task c.requires.n_bound
    c.vector-f0.ensures c.vector-scal.ensures c.coefficients-cont.ensures c.vector-z1.ensures c.vector-z2.ensures
    c.vector-z3.ensures c.vector-f1.ensures
    c.vector-f2.ensures c.vector-f3.ensures c.vector-rtol.ensures c.vector-atol.ensures c.matrix-mass.ensures
    c.matrix-jac.ensures c.matrix-e1.ensures
    c.matrix-e2r.ensures c.matrix-e2i.ensures c.pivots-ip1.ensures c.pivots-ip2.ensures c.vector-y_perturbed.ensures
    c.vector-f_perturbed.ensures c.vector-f_origin.ensures in
    ran-is c.args.task c.args.rates.now c.args.species.now c.args.pending.run c.args.pending.request
    c.args.pending.place c.requires.n_bound.1 lent c.to_end-run.ensures
