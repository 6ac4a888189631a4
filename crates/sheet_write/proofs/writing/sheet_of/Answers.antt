-- `sheet_of` meets its contract: the four parts, one behind the other, are the sheet.
use Rattle.sheet_write.proofs.AnswerLaws.{settings-few, sheet-whole}
use Rattle.sheet_write.proofs.writing.sheet_of.Goals as goal

pub put_numbers-requires-4-clause-species : goal.put_numbers-requires-4-clause-species
put_numbers-requires-4-clause-species c =
    (settings-few c.args.settings.now c.requires.lengths.0 c.requires.fits.settings).1

pub returns : goal.returns
returns c = sheet-whole c.args.settings.now c.args.amounts.now c.args.count.now c.args.listed.now c.requires.fits
    c.requires.lengths.0 c.requires.lengths.1 c.requires.lengths.2 c.requires.lengths.3
    (rw c.new-sheet.ensures at c.put_numbers.ensures) c.put_numbers-2.ensures c.put_numbers-3.ensures
    c.put_numbers-4.ensures
