-- Each contract settles its call: it asks nothing, and two outcomes that it allows for one input are the same.
use mathlib.Core.List.{[]}
use Rattle.words.specs.Contract.{Settles}
use Rattle.words.proofs.OneOutcome.{◌▹◌, one-result, two-parts}
use Rattle.state.specs.declared.talk.Reply.{Reply}
use Rattle.state.specs.Memory.{Memory, Given, Factors, given, factors}
use Rattle.model_run.proofs.host.answer as answer
use Rattle.model_run.proofs.run.run as run
use Rattle.model_run.proofs.run.start as start

pub run-once : Settles run.Kinds.ps run.Kinds.r run.Reads.Asked run.Reads.Post
run-once κs a = (tt, λ o p. one-result o.1)

pub start-once : Settles start.Kinds.ps start.Kinds.r start.Reads.Asked start.Reads.Post
start-once κs a = (tt, λ o p. one-result o.1)

-- the contract of `answer` holds whatever stands in the parts that it is not lent
abbrev no-given : Given
no-given = given [] [] [] []

abbrev no-factors : Factors
no-factors = factors [] [] [] [] []

pub answer-once : Settles answer.Kinds.ps answer.Kinds.r answer.Reads.Asked answer.Reads.Post
answer-once κs a = (
  tt,
  λ o p. λ e f. two-parts (λ (r : Reply) (m : Memory).
      r ▹ tt ▹ tt ▹ tt ▹ tt ▹ tt ▹ tt ▹ m.amounts.f0 ▹ tt ▹ m.newton.z1 ▹ m.newton.z2 ▹ m.newton.z3
      ▹ m.newton.f1 ▹ tt ▹ m.differences.f_perturbed ▹ m.differences.f_origin ▹ tt)
      (e.0, e.1 [] [] [] no-given no-factors) (f.0, f.1 [] [] [] no-given no-factors),
)
