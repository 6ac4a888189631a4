-- Each contract settles its call: it asks nothing, and two outcomes that it allows for one input are the same.
use Rattle.words.specs.Contract.{Settles}
use Rattle.words.proofs.OneOutcome.{one-result}
use Rattle.bits.proofs.double as double
use Rattle.bits.proofs.pattern as pattern
use Rattle.bits.proofs.digit as digit

pub double-once : Settles double.Kinds.ps double.Kinds.r double.Reads.Asked double.Reads.Post
double-once κs a = (tt, λ o p. one-result o.1)

pub pattern-once : Settles pattern.Kinds.ps pattern.Kinds.r pattern.Reads.Asked pattern.Reads.Post
pattern-once κs a = (tt, λ o p. one-result o.1)

pub digit-once : Settles digit.Kinds.ps digit.Kinds.r digit.Reads.Asked digit.Reads.Post
digit-once κs a = (tt, λ o p. one-result o.1)
