-- Each contract settles its call: it asks nothing, and two outcomes that it allows for one input are the same answer
-- and the same memory.
use Rattle.words.specs.Contract.{Settles}
use Rattle.words.proofs.OneOutcome.{◌▹◌, one-part, one-result}
use Rattle.dense.specs.Answers.{Interpolation}
use Rattle.dense.proofs.interpolation.interpolate as interpolate
use Rattle.dense.proofs.step.bounds as bounds

pub interpolate-once : Settles interpolate.Kinds.ps interpolate.Kinds.r interpolate.Reads.Asked interpolate.Reads.Post
interpolate-once κs a = (tt, λ o p. one-part (λ (i : Interpolation). i.answer ▹ tt ▹ i.yi ▹ tt ▹ tt ▹ tt ▹ tt))

pub bounds-once : Settles bounds.Kinds.ps bounds.Kinds.r bounds.Reads.Asked bounds.Reads.Post
bounds-once κs a = (tt, λ o p. one-result o.1)
