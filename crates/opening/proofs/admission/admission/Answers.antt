-- `admission` meets its contract.
use mathlib.Core.Path.{◌∙◌}
use Rattle.state.specs.Memory.{memory, amounts, newton, given, factors, differences}
use Rattle.opening.proofs.OpeningLaws.{in_order, fits-are}
use Rattle.opening.proofs.AdmissionLaws.{unfit-order, unfit-length, fit-later}
use Rattle.opening.proofs.admission.admission.Goals as goal

pub returns-then-n : goal.returns-then-n
returns-then-n c =
    let a = c.args in
    unfit-order a.run a.reply (memory
    (amounts a.y.now a.f0.now a.scal.now a.cont.now)
    (newton a.z1.now a.z2.now a.z3.now a.f1.now a.f2.now a.f3.now)
    (given a.rtol.now a.atol.now a.mass.now a.jac.now)
    (factors a.e1.now a.e2r.now a.e2i.now a.ip1.now a.ip2.now)
    (differences a.y_perturbed.now a.f_perturbed.now a.f_origin.now))
    c.if-n.true

pub amounts_fit-requires : goal.amounts_fit-requires
amounts_fit-requires c = (in_order _ c.if-n.false).1

pub given_fit-requires : goal.given_fit-requires
given_fit-requires c = (in_order _ c.if-n.false).1

pub factors_fit-requires : goal.factors_fit-requires
factors_fit-requires c = (in_order _ c.if-n.false).1

pub returns-then-not-fit : goal.returns-then-not-fit
returns-then-not-fit c =
    unfit-length c.args.run c.args.reply _ c.if-n.false
    (fits-are _ _ _ _ _ _ _ _ _ _ _ _ c.amounts_fit.ensures c.vectors_fit.ensures c.vectors_fit-2.ensures
    c.given_fit.ensures c.factors_fit.ensures c.vectors_fit-3.ensures
    ∙ c.if-not-fit.true)

pub admit-requires : goal.admit-requires
admit-requires c = (in_order _ c.if-n.false).1

pub returns : goal.returns
returns c =
    c.admit.ensures
    ∙ fit-later c.args.run c.args.reply _ c.if-n.false
    (fits-are _ _ _ _ _ _ _ _ _ _ _ _ c.amounts_fit.ensures c.vectors_fit.ensures c.vectors_fit-2.ensures
    c.given_fit.ensures c.factors_fit.ensures c.vectors_fit-3.ensures
    ∙ c.if-not-fit.false)
