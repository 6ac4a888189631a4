-- `opened` meets its contract: the ways out are those of proofs/OpeningLaws.antt.
use mathlib.Core.Path.{◌≡◌, sym, ◌∙◌}
use mathlib.Core.Bool.{true}
use Rattle.state.specs.Memory.{memory, amounts, given, lengths_fit}
use Rattle.state.specs.Lent.{newton_of, factors_of, differences_of}
use Rattle.opening.proofs.OpeningLaws.{open_order, open-length, open-refused, open-accepted, in_order}
use Rattle.opening.proofs.OpeningLaws.{fits-of, groups_of, given-long, accepted-by}
use Rattle.opening.proofs.RowLaws.{handed-on}
use Rattle.opening.proofs.groups.opened.Goals.{Else-not-fit}
use Rattle.opening.proofs.groups.opened.Goals as goal

pub returns-then-n-clause-outcome : goal.returns-then-n-clause-outcome
returns-then-n-clause-outcome c = open_order _ c.if-n.true

pub returns-then-not-fit-clause-outcome : goal.returns-then-not-fit-clause-outcome
returns-then-not-fit-clause-outcome c =
    open-length _ c.if-n.false
    (fits-of _ _ _ _ _ _ _ _ _ _ _ c.amounts_fit.ensures c.fits.ensures c.given_fit.ensures c.fits-2.ensures
    c.fits-3.ensures
    ∙ c.if-not-fit.true)

-- past the five tests all lengths fit
fitted : (c : Else-not-fit)
    → let a = c.args in
    lengths_fit a.n (memory
    (amounts a.y.now a.f0.now a.scal.now a.cont.now)
    (newton_of a.lent_newton.now)
    (given a.rtol.now a.atol.now a.mass.now a.jac.now)
    (factors_of a.lent_factors.now)
    (differences_of a.lent_differences.now))
    ≡ true
fitted c =
    fits-of _ _ _ _ _ _ _ _ _ _ _ c.amounts_fit.ensures c.fits.ensures c.given_fit.ensures c.fits-2.ensures
    c.fits-3.ensures
    ∙ c.if-not-fit.false

pub convert-conversion-requires : goal.convert-conversion-requires
convert-conversion-requires c =
    let fit = groups_of _ _ _ _ _ _ (fitted (goal.at.convert-conversion-requires c).Else-not-fit) in
    let l = given-long _ _ _ _ _ fit.given-fit in ((in_order _ c.if-n.false).0, l.0, l.1)

pub returns-in_err-check_given-clause-outcome : goal.returns-in_err-check_given-clause-outcome
returns-in_err-check_given-clause-outcome c =
    rw (handed-on c.from_residual.ensures.1)
    (open-refused _ _ c.if-n.false (fitted (goal.at.returns-in_err-check_given-clause-outcome c).Else-not-fit)
    (sym c.check_given.ensures ∙ c.in_err-check_given.was))

pub returns-clause-outcome : goal.returns-clause-outcome
returns-clause-outcome c =
    let fit = fitted (goal.at.returns-clause-outcome c).Else-not-fit in
    rw c.first_run.ensures
    (accepted-by _ _ _ _ _ _ _ _ _ _ (groups_of _ _ _ _ _ _ fit)
    _ _ _ _ _ _ _ _ c.clear_working.ensures c.clear.ensures.cleared
    c.clear-2.ensures.cleared c.clear-3.ensures.cleared
    c.keep_mass.ensures c.convert-conversion.ensures
    ∙ open-accepted _ c.if-n.false fit
    (sym c.check_given.ensures ∙ c.in_ok-check_given.was))
