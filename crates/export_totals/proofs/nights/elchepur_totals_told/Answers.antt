-- `elchepur_totals_told` meets its contract, way by way.
use mathlib.Core.Path.{sym, ◌∙◌}
use Rattle.export_totals.proofs.BorderLaws.{left-totals, left-line, left-many, night-error}
use Rattle.export_totals.proofs.nights.elchepur_totals_told.Goals as goal

pub returns-in-Ok : goal.returns-in-Ok
returns-in-Ok c =
    left-totals _ _ _ _ (sym (rw c.night_from.ensures at c.told.ensures) ∙ c.in-Ok.is) c.totals_words.ensures

pub returns-in-Err-Malformed : goal.returns-in-Err-Malformed
returns-in-Err-Malformed c = left-line _ _ _ _
    (sym (rw c.night_from.ensures at c.told.ensures)
    ∙ night-error c.in-Err-Malformed.is c.in-Err-Malformed.field-0-is)

pub returns-in-Err-TooMany : goal.returns-in-Err-TooMany
returns-in-Err-TooMany c = left-many _ _ _
    (sym (rw c.night_from.ensures at c.told.ensures)
    ∙ night-error c.in-Err-TooMany.is c.in-Err-TooMany.field-0-is)
