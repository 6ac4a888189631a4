-- Each contract settles its call: it asks nothing, and two outcomes that it allows for one input are the same answer
-- and the same memory.
use mathlib.Core.List.{List}
use lib.Ieee.{Float}
use Rattle.words.specs.Contract.{Settles}
use Rattle.words.proofs.OneOutcome.{◌▹◌, one-part}
use Rattle.matrix.specs.Answers.{Decomposition, Solution}
use Rattle.matrix.specs.Complex.{Parts}
use Rattle.matrix.proofs.lu.lu_decomp as lu-decomp
use Rattle.matrix.proofs.lu_complex.lu_decomp_complex as lu-complex
use Rattle.matrix.proofs.linear.lin_solve as lin-solve
use Rattle.matrix.proofs.linear_complex.lin_solve_complex as solve-complex

pub lu-decomp-once : Settles lu-decomp.Kinds.ps lu-decomp.Kinds.r lu-decomp.Reads.Asked lu-decomp.Reads.Post
lu-decomp-once κs a = (tt, λ o p. one-part (λ (d : Decomposition (List Float)). d.answer ▹ tt ▹ d.a ▹ d.ip ▹ tt))

pub lu-decomp-complex-once : Settles lu-complex.Kinds.ps lu-complex.Kinds.r lu-complex.Reads.Asked lu-complex.Reads.Post
lu-decomp-complex-once κs a =
    (tt, λ o p. one-part (λ (d : Decomposition Parts). d.answer ▹ tt ▹ d.a.re ▹ d.a.im ▹ d.ip ▹ tt))

pub lin-solve-once : Settles lin-solve.Kinds.ps lin-solve.Kinds.r lin-solve.Reads.Asked lin-solve.Reads.Post
lin-solve-once κs a = (tt, λ o p. one-part (λ (s : Solution (List Float)). s.answer ▹ tt ▹ tt ▹ s.b ▹ tt ▹ tt))

pub lin-solve-complex-once
    : Settles solve-complex.Kinds.ps solve-complex.Kinds.r solve-complex.Reads.Asked solve-complex.Reads.Post
lin-solve-complex-once κs a =
    (tt, λ o p. one-part (λ (s : Solution Parts). s.answer ▹ tt ▹ tt ▹ tt ▹ s.b.re ▹ s.b.im ▹ tt ▹ tt))
