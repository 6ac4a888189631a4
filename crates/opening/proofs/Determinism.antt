-- Each contract settles its call: it asks nothing, and two outcomes that it allows for one input are the same answer
-- and the same memory.
use Rattle.words.specs.Contract.{Settles}
use Rattle.words.proofs.OneOutcome.{◌▹◌, one-part, one-result}
use Rattle.opening.specs.Opening.{OpeningOutcome}
use Rattle.opening.proofs.admission.asking_at as asking-at
use Rattle.opening.proofs.admission.admission as admission
use Rattle.opening.proofs.admission.admission_lent as admission-lent
use Rattle.opening.proofs.opening.open as opens

pub asking-at-once : Settles asking-at.Kinds.ps asking-at.Kinds.r asking-at.Reads.Asked asking-at.Reads.Post
asking-at-once κs a = (tt, λ o p. one-result o.1)

pub admission-once : Settles admission.Kinds.ps admission.Kinds.r admission.Reads.Asked admission.Reads.Post
admission-once κs a = (tt, λ o p. one-result o.1)

pub admission-lent-once
    : Settles admission-lent.Kinds.ps admission-lent.Kinds.r admission-lent.Reads.Asked admission-lent.Reads.Post
admission-lent-once κs a = (tt, λ o p. one-result o.1)

pub open-once : Settles opens.Kinds.ps opens.Kinds.r opens.Reads.Asked opens.Reads.Post
open-once κs a = (
  tt,
  λ o p. one-part (λ (x : OpeningOutcome).
      x.answer ▹ tt ▹ tt ▹ tt ▹ tt ▹ tt ▹ tt ▹ x.memory.amounts.f0 ▹ x.memory.amounts.scal
      ▹ x.memory.amounts.cont ▹ x.memory.newton.z1 ▹ x.memory.newton.z2 ▹ x.memory.newton.z3
      ▹ x.memory.newton.f1 ▹ x.memory.newton.f2 ▹ x.memory.newton.f3 ▹ x.memory.given.rtol
      ▹ x.memory.given.atol ▹ x.memory.given.mass ▹ x.memory.given.jac ▹ x.memory.factors.e1
      ▹ x.memory.factors.e2r ▹ x.memory.factors.e2i ▹ x.memory.factors.ip1 ▹ x.memory.factors.ip2
      ▹ x.memory.differences.y_perturbed ▹ x.memory.differences.f_perturbed
      ▹ x.memory.differences.f_origin ▹ tt),
)
