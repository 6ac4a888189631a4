-- Each contract settles its call: it asks nothing, and two outcomes that it allows for one input are the same answer
-- and the same memory.
use Rattle.words.specs.Contract.{Settles}
use Rattle.words.proofs.OneOutcome.{◌▹◌, one-part}
use Rattle.export_csv.specs.Told.{Told}
use Rattle.export_csv.proofs.tables.elchepur_csv_header as header
use Rattle.export_csv.proofs.tables.elchepur_csv_record as point

pub elchepur-csv-header-once : Settles header.Kinds.ps header.Kinds.r header.Reads.Asked header.Reads.Post
elchepur-csv-header-once κs a = (tt, λ o p. one-part (λ (t : Told). t.answer ▹ tt ▹ t.buffer ▹ t.written ▹ tt))

pub elchepur-csv-record-once : Settles point.Kinds.ps point.Kinds.r point.Reads.Asked point.Reads.Post
elchepur-csv-record-once κs a =
    (tt, λ o p. one-part (λ (t : Told). t.answer ▹ tt ▹ tt ▹ t.buffer ▹ t.written ▹ tt))
