-- Each contract settles its call: it asks nothing, and two outcomes that it allows for one input are the same answer
-- and the same memory.
use Rattle.words.specs.Contract.{Settles}
use Rattle.words.proofs.OneOutcome.{◌▹◌, one-part, one-result}
use Rattle.shelf.specs.Answers.{Placed, Asked}
use Rattle.shelf.proofs.placing.empty as empty
use Rattle.shelf.proofs.placing.put as put
use Rattle.shelf.proofs.asking.ask as ask

pub empty-once : Settles empty.Kinds.ps empty.Kinds.r empty.Reads.Asked empty.Reads.Post
empty-once κs a = (tt, λ o p. one-result o.1)

pub put-once : Settles put.Kinds.ps put.Kinds.r put.Reads.Asked put.Reads.Post
put-once κs a = (
  tt,
  λ o p. one-part (λ (l : Placed). l.answer ▹ tt ▹ tt ▹ tt ▹ tt ▹ l.coefficients ▹ l.ends ▹ tt),
)

pub ask-once : Settles ask.Kinds.ps ask.Kinds.r ask.Reads.Asked ask.Reads.Post
ask-once κs a = (tt, λ o p. one-part (λ (l : Asked). l.answer ▹ tt ▹ tt ▹ l.target ▹ tt ▹ tt ▹ tt))
