-- `elchepur_write_sheet` meets its contract, way by way.
use mathlib.Core.Path.{sym, ap, ◌∙◌}
use Rattle.sheet_write.specs.Writer.{number_of}
use Rattle.export_sheet.specs.Border.{length_left}
use Rattle.export_sheet.proofs.BorderLaws.{left-unknown, left-written}
use Rattle.export_sheet.proofs.sheets.elchepur_write_sheet.Goals as goal

pub returns-then-rule-gt-LAST_RULE : goal.returns-then-rule-gt-LAST_RULE
returns-then-rule-gt-LAST_RULE c = let args = c.args in
    left-unknown args.settings.now args.counts.now args.amounts.now args.rates.now args.species.now
    args.sheet.now args.length.now c.if-rule-gt-LAST_RULE.true c.writing_number.ensures

pub returns-in-Ok : goal.returns-in-Ok
unfolding length_left
returns-in-Ok c = let args = c.args in
    left-written args.settings.now args.counts.now args.amounts.now args.rates.now args.species.now
    args.sheet.now args.length.now c.heading_from.result c.write-answer.result
    c.if-rule-gt-LAST_RULE.false c.heading_from.ensures c.write-answer.ensures.value
    c.write-answer.ensures.out_after (c.writing_number-in-Ok.ensures ∙ ap number_of (sym c.in-Ok.is))
    (ap (λ a. length_left a args.length.now) (sym c.in-Ok.is))

pub returns-in-Err : goal.returns-in-Err
unfolding length_left
returns-in-Err c = let args = c.args in
    left-written args.settings.now args.counts.now args.amounts.now args.rates.now args.species.now
    args.sheet.now args.length.now c.heading_from.result c.write-answer.result
    c.if-rule-gt-LAST_RULE.false c.heading_from.ensures c.write-answer.ensures.value
    c.write-answer.ensures.out_after c.writing_number-in-Err.ensures
    (ap (λ a. length_left a args.length.now) (sym c.in-Err.is))
