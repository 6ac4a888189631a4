-- Each contract settles its call: it asks nothing, and two outcomes that it allows for one input are the same answer
-- and the same memory.
use Rattle.words.specs.Contract.{Settles}
use Rattle.words.proofs.OneOutcome.{◌▹◌, one-part}
use Rattle.solve_blocks.specs.Advance.{AdvanceOutcome}
use Rattle.radau.proofs.advance.Resumed.advance as advance

pub advance-once : Settles advance.Kinds.ps advance.Kinds.r advance.Reads.Asked advance.Reads.Post
advance-once κs a = (
  tt,
  λ o p. one-part (λ (x : AdvanceOutcome).
      x.answer ▹ tt ▹ x.memory.amounts.y ▹ tt ▹ x.memory.amounts.scal ▹ x.memory.amounts.cont
      ▹ x.memory.newton.z1 ▹ x.memory.newton.z2 ▹ x.memory.newton.z3 ▹ x.memory.newton.f1
      ▹ x.memory.newton.f2 ▹ x.memory.newton.f3 ▹ tt ▹ tt ▹ tt ▹ x.memory.given.jac ▹ x.memory.factors.e1
      ▹ x.memory.factors.e2r ▹ x.memory.factors.e2i ▹ x.memory.factors.ip1 ▹ x.memory.factors.ip2
      ▹ x.memory.differences.y_perturbed ▹ x.memory.differences.f_perturbed
      ▹ x.memory.differences.f_origin ▹ tt),
)
