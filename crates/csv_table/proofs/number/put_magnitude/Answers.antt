-- `put_magnitude` meets its contract, case by case.
use borrow.Author.Tests.{eq-eqb, ne_eqb}
use Rattle.words.specs.Loop.{pick}
use Rattle.words.proofs.Branch.{pick_yes, pick_no}
use Rattle.forecast_text.specs.Printed.{text}
use Rattle.forecast_text.proofs.PutLaws.{put-then}
use Rattle.csv_table.specs.NumberText.{magnitude_text}
use Rattle.csv_table.proofs.number.put_magnitude.Goals as goal

pub returns-in-2047-default : goal.returns-in-2047-default
unfolding magnitude_text text
returns-in-2047-default c = rw (pick_yes _ _ (eq-eqb _ _ c.in-2047-default.is-0)) c.put.ensures

pub returns-in-0-eq0 : goal.returns-in-0-eq0
unfolding magnitude_text text pick
returns-in-0-eq0 c = rw (c.in-0-eq0.is-0, c.in-0-eq0.is-1) c.put-in-0-eq0.ensures

pub returns-in-0-default : goal.returns-in-0-default
unfolding magnitude_text text pick
returns-in-0-default c =
    rw (c.in-0-default.is-0, pick_no _ _ (ne_eqb _ _ c.in-0-default.is-1.1))
    (put-then _ _ _ _ c.put-in-0-default.ensures (put-then _ _ _ _ c.put_fraction.ensures c.put-in-0-default-2.ensures))

pub returns-in_default : goal.returns-in_default
unfolding magnitude_text text
returns-in_default c =
    let not = c.in_default.is-0 in
    rw (pick_no _ _ (ne_eqb _ _ not.0.1), pick_no _ _ (ne_eqb _ _ not.1))
    (put-then _ _ _ _ c.put-in_default.ensures
    (put-then _ _ _ _ c.put_fraction-in_default.ensures c.put_exponent.ensures))
