-- Each contract settles its call: it asks nothing, and two outcomes that it allows for one input are the same answer
-- and the same memory.
use Rattle.words.specs.Contract.{Settles}
use Rattle.words.proofs.OneOutcome.{◌▹◌, one-part}
use Rattle.export_sheet.specs.Border.{SheetRead, SheetWritten}
use Rattle.export_sheet.proofs.sheets.elchepur_read_sheet as reads
use Rattle.export_sheet.proofs.sheets.elchepur_write_sheet as writes

pub elchepur-read-sheet-once : Settles reads.Kinds.ps reads.Kinds.r reads.Reads.Asked reads.Reads.Post
elchepur-read-sheet-once κs a = (
  tt,
  λ o p. one-part (λ (l : SheetRead).
      l.number ▹ tt ▹ l.settings ▹ l.counts ▹ l.amounts ▹ l.rates ▹ l.species ▹ l.line ▹ tt),
)

pub elchepur-write-sheet-once : Settles writes.Kinds.ps writes.Kinds.r writes.Reads.Asked writes.Reads.Post
elchepur-write-sheet-once κs a = (
  tt,
  λ o p. one-part (λ (l : SheetWritten). l.number ▹ tt ▹ tt ▹ tt ▹ tt ▹ tt ▹ l.sheet ▹ l.long ▹ tt),
)
