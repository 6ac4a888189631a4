-- Each contract settles its call: it asks nothing, and two outcomes that it allows for one input are the same answer
-- and the same buffer.
use Rattle.words.specs.Contract.{Settles}
use Rattle.words.proofs.OneOutcome.{◌▹◌, one-part}
use Rattle.csv_table.specs.Table.{Export}
use Rattle.csv_table.proofs.table.put_header as header
use Rattle.csv_table.proofs.table.put_record as point

pub put-header-once : Settles header.Kinds.ps header.Kinds.r header.Reads.Asked header.Reads.Post
put-header-once κs a = (tt, λ o p. one-part (λ (e : Export). e.answer ▹ tt ▹ e.buffer ▹ tt))

pub put-record-once : Settles point.Kinds.ps point.Kinds.r point.Reads.Asked point.Reads.Post
put-record-once κs a = (tt, λ o p. one-part (λ (e : Export). e.answer ▹ tt ▹ tt ▹ e.buffer ▹ tt))
