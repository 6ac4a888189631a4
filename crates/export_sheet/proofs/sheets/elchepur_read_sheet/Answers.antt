-- `elchepur_read_sheet` meets its contract, way by way.
use mathlib.Core.Path.{sym, ap, ◌∙◌}
use Rattle.std.proofs.Common.{Err}
use Rattle.sheet.specs.Reader.{read_of}
use Rattle.export_sheet.proofs.BorderLaws.{left-read, left-line, left-long}
use Rattle.export_sheet.proofs.sheets.elchepur_read_sheet.Goals as goal

pub returns-in-Ok : goal.returns-in-Ok
returns-in-Ok c = let read = c.read in
    let args = c.args in
    left-read args.settings.now args.counts.now args.amounts.now args.rates.now args.species.now
    args.line.now _ _ _ (read_of args.sheet.now) _ (sym read.ensures.value ∙ c.in-Ok.is)
    c.put_settings.ensures c.put_counts.ensures read.ensures.amounts_after
    read.ensures.rates_after read.ensures.species_after

pub returns-in-Err-Malformed : goal.returns-in-Err-Malformed
returns-in-Err-Malformed c = let read = c.read in
    let args = c.args in
    left-line args.settings.now args.counts.now args.amounts.now args.rates.now args.species.now
    args.line.now _ _ _ (read_of args.sheet.now) _
    (sym read.ensures.value ∙ c.in-Err-Malformed.is ∙ ap Err c.in-Err-Malformed.field-0-is)
    read.ensures.amounts_after read.ensures.rates_after read.ensures.species_after

pub returns-in-Err-TooLong : goal.returns-in-Err-TooLong
returns-in-Err-TooLong c = let read = c.read in
    let args = c.args in
    left-long args.settings.now args.counts.now args.amounts.now args.rates.now args.species.now
    args.line.now _ _ _ (read_of args.sheet.now)
    (sym read.ensures.value ∙ c.in-Err-TooLong.is ∙ ap Err c.in-Err-TooLong.field-0-is)
    read.ensures.amounts_after read.ensures.rates_after read.ensures.species_after
