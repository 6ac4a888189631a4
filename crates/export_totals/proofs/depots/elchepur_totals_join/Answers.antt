-- `elchepur_totals_join` meets its contract, way by way.
use mathlib.Core.Path.{sym, ◌∙◌}
use Rattle.export_totals.proofs.BorderLaws.{joined-totals, joined-unfit, joined-many, join-error}
use Rattle.export_totals.proofs.depots.elchepur_totals_join.Goals as goal

pub returns-in-Ok : goal.returns-in-Ok
returns-in-Ok c = joined-totals _ _ _
    (sym (rw (c.totals_given-2.ensures, c.totals_given.ensures) at c.join.ensures) ∙ c.in-Ok.is) c.totals_words.ensures

pub returns-in-Err-Unfit : goal.returns-in-Err-Unfit
returns-in-Err-Unfit c = joined-unfit _ _
    (sym (rw (c.totals_given-2.ensures, c.totals_given.ensures) at c.join.ensures)
    ∙ join-error c.in-Err-Unfit.is c.in-Err-Unfit.field-0-is)

pub returns-in-Err-TooMany : goal.returns-in-Err-TooMany
returns-in-Err-TooMany c = joined-many _ _
    (sym (rw (c.totals_given-2.ensures, c.totals_given.ensures) at c.join.ensures)
    ∙ join-error c.in-Err-TooMany.is c.in-Err-TooMany.field-0-is)
