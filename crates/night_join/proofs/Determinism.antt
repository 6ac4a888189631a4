-- The contract settles its call: it asks nothing, and two outcomes that it allows for one input are the same answer.
use Rattle.words.specs.Contract.{Settles}
use Rattle.words.proofs.OneOutcome.{one-result}
use Rattle.night_join.proofs.joining.join as join

pub join-once : Settles join.Kinds.ps join.Kinds.r join.Reads.Asked join.Reads.Post
join-once κs a = (tt, λ o p. one-result o.1)
