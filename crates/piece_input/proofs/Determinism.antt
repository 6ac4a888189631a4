-- Each contract settles its call, but those of `read_piece` and `answer`, which read standard input.
use Rattle.words.specs.Contract.{Settles}
use Rattle.words.proofs.OneOutcome.{one-result}
use Rattle.piece_input.proofs.telling.write_first as write_first
use Rattle.piece_input.proofs.telling.unreadable as unreadable

pub write-first-once : Settles write_first.Kinds.ps write_first.Kinds.r write_first.Reads.Asked write_first.Reads.Post
write-first-once κs a = (tt, λ o p. one-result o.1)

pub unreadable-once : Settles unreadable.Kinds.ps unreadable.Kinds.r unreadable.Reads.Asked unreadable.Reads.Post
unreadable-once κs a = (tt, λ o p. one-result o.1)
