-- `check_settings` meets its contract.
use mathlib.Core.Path.{sym, ap, ◌∙◌}
use Rattle.opening.specs.Rows.{range_rows}
use Rattle.opening.specs.Admission.{unfit_of}
use Rattle.opening.proofs.AdmissionLaws.{unfit-all}
use Rattle.opening.proofs.admission.check_settings.Goals as goal

pub returns-in-Ok : goal.returns-in-Ok
unfolding unfit_of
returns-in-Ok c =
    ap unfit_of (sym c.in-Ok.is ∙ c.check_ranges.ensures) ∙ unfit-all (range_rows c.args.run.settings)

pub returns-in-Err : goal.returns-in-Err
unfolding unfit_of
returns-in-Err c =
    ap unfit_of (sym c.in-Err.is ∙ c.check_ranges.ensures) ∙ unfit-all (range_rows c.args.run.settings)
