-- Each contract settles its call: it asks nothing, and two outcomes that it allows for one input are the same answer
-- and the same memory.
use Rattle.words.specs.Contract.{Settles}
use Rattle.words.proofs.OneOutcome.{◌▹◌, one-part}
use Rattle.model.specs.Answers.{Derivation}
use Rattle.model.proofs.derivation.derivative as derivative

pub derivative-once : Settles derivative.Kinds.ps derivative.Kinds.r derivative.Reads.Asked derivative.Reads.Post
derivative-once κs a = (tt, λ o p. one-part (λ (d : Derivation). d.answer ▹ tt ▹ tt ▹ tt ▹ tt ▹ d.dy ▹ tt))
