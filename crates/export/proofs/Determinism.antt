-- Each contract settles its call: it asks nothing, and two outcomes that it allows for one input are the same answer
-- and the same memory.
use Prim.Native.Nat.{ℕ}
use mathlib.Core.List.{List}
use lib.Ieee.{Float}
use Rattle.words.specs.Contract.{Settles}
use Rattle.words.proofs.OneOutcome.{◌▹◌, one-part, one-result, two-parts, four-parts}
use Rattle.matrix.specs.Complex.{Parts}
use Rattle.export.specs.Talk.{Left, Ended}
use Rattle.export.proofs.scalars.elchepur_sqrt as sqrt
use Rattle.export.proofs.scalars.elchepur_root as root
use Rattle.export.proofs.scalars.elchepur_power as power
use Rattle.export.proofs.scalars.elchepur_two_thirds as two-thirds
use Rattle.export.proofs.scalars.elchepur_four_fifths as four-fifths
use Rattle.export.proofs.scalars.elchepur_quarter as quarter
use Rattle.export.proofs.scalars.elchepur_inverse_root as inverse-root
use Rattle.export.proofs.scalars.elchepur_abs as abs
use Rattle.export.proofs.scalars.elchepur_max as max
use Rattle.export.proofs.scalars.elchepur_min as min
use Rattle.export.proofs.scalars.elchepur_clamp as clamp
use Rattle.export.proofs.scalars.elchepur_signum as signum
use Rattle.export.proofs.scalars.elchepur_coefficient as coefficient
use Rattle.export.proofs.defaults.elchepur_default_settings as defaults
use Rattle.export.proofs.held.elchepur_held_step as held-step
use Rattle.export.proofs.dense_output.elchepur_interpolate as interpolate
use Rattle.export.proofs.dense_output.elchepur_bounds as bounds
use Rattle.export.proofs.matrices.elchepur_lu_decomp as lu-decomp
use Rattle.export.proofs.matrices.elchepur_lu_decomp_complex as lu-complex
use Rattle.export.proofs.matrices.elchepur_lin_solve as lin-solve
use Rattle.export.proofs.matrices.elchepur_lin_solve_complex as solve-complex
use Rattle.export.proofs.run.elchepur_open as opens
use Rattle.export.proofs.run.elchepur_advance as advance
use Rattle.export.proofs.run.elchepur_result as result

pub elchepur-sqrt-once : Settles sqrt.Kinds.ps sqrt.Kinds.r sqrt.Reads.Asked sqrt.Reads.Post
elchepur-sqrt-once κs a = (tt, λ o p. λ e f. one-result o.1 e.0 f.0)

pub elchepur-root-once : Settles root.Kinds.ps root.Kinds.r root.Reads.Asked root.Reads.Post
elchepur-root-once κs a = (tt, λ o p. one-result o.1)

pub elchepur-power-once : Settles power.Kinds.ps power.Kinds.r power.Reads.Asked power.Reads.Post
elchepur-power-once κs a = (tt, λ o p. one-result o.1)

pub elchepur-two-thirds-once
    : Settles two-thirds.Kinds.ps two-thirds.Kinds.r two-thirds.Reads.Asked two-thirds.Reads.Post
elchepur-two-thirds-once κs a = (tt, λ o p. one-result o.1)

pub elchepur-four-fifths-once
    : Settles four-fifths.Kinds.ps four-fifths.Kinds.r four-fifths.Reads.Asked four-fifths.Reads.Post
elchepur-four-fifths-once κs a = (tt, λ o p. one-result o.1)

pub elchepur-quarter-once : Settles quarter.Kinds.ps quarter.Kinds.r quarter.Reads.Asked quarter.Reads.Post
elchepur-quarter-once κs a = (tt, λ o p. one-result o.1)

pub elchepur-inverse-root-once
    : Settles inverse-root.Kinds.ps inverse-root.Kinds.r inverse-root.Reads.Asked inverse-root.Reads.Post
elchepur-inverse-root-once κs a = (tt, λ o p. one-result o.1)

pub elchepur-abs-once : Settles abs.Kinds.ps abs.Kinds.r abs.Reads.Asked abs.Reads.Post
elchepur-abs-once κs a = (tt, λ o p. one-result o.1)

pub elchepur-max-once : Settles max.Kinds.ps max.Kinds.r max.Reads.Asked max.Reads.Post
elchepur-max-once κs a = (tt, λ o p. one-result o.1)

pub elchepur-min-once : Settles min.Kinds.ps min.Kinds.r min.Reads.Asked min.Reads.Post
elchepur-min-once κs a = (tt, λ o p. one-result o.1)

pub elchepur-clamp-once : Settles clamp.Kinds.ps clamp.Kinds.r clamp.Reads.Asked clamp.Reads.Post
elchepur-clamp-once κs a = (tt, λ o p. one-result o.1)

pub elchepur-signum-once : Settles signum.Kinds.ps signum.Kinds.r signum.Reads.Asked signum.Reads.Post
elchepur-signum-once κs a = (tt, λ o p. one-result o.1)

pub elchepur-coefficient-once
    : Settles coefficient.Kinds.ps coefficient.Kinds.r coefficient.Reads.Asked coefficient.Reads.Post
elchepur-coefficient-once κs a = (tt, λ o p. two-parts (λ (r : ℕ) (value : Float). r ▹ tt ▹ value ▹ tt))

pub elchepur-default-settings-once : Settles defaults.Kinds.ps defaults.Kinds.r defaults.Reads.Asked defaults.Reads.Post
elchepur-default-settings-once κs a =
    (tt, λ o p. two-parts (λ (numbers : List ℕ) (floats : List Float). tt ▹ numbers ▹ floats ▹ tt))

pub elchepur-held-step-once : Settles held-step.Kinds.ps held-step.Kinds.r held-step.Reads.Asked held-step.Reads.Post
elchepur-held-step-once κs a = (tt, λ o p. one-result o.1)

pub elchepur-interpolate-once
    : Settles interpolate.Kinds.ps interpolate.Kinds.r interpolate.Reads.Asked interpolate.Reads.Post
elchepur-interpolate-once κs a = (tt, λ o p. two-parts (λ (r : ℕ) (yi : List Float). r ▹ tt ▹ yi ▹ tt ▹ tt ▹ tt ▹ tt))

pub elchepur-bounds-once : Settles bounds.Kinds.ps bounds.Kinds.r bounds.Reads.Asked bounds.Reads.Post
elchepur-bounds-once κs a = (tt, λ o p. one-part (λ (ends : List Float). tt ▹ tt ▹ tt ▹ ends ▹ tt))

pub elchepur-lu-decomp-once : Settles lu-decomp.Kinds.ps lu-decomp.Kinds.r lu-decomp.Reads.Asked lu-decomp.Reads.Post
elchepur-lu-decomp-once κs a =
    (tt, λ o p. four-parts (λ (r : ℕ) (a : List Float) (ip : List ℕ) (column : ℕ). r ▹ tt ▹ a ▹ ip ▹ column ▹ tt))

pub elchepur-lu-decomp-complex-once
    : Settles lu-complex.Kinds.ps lu-complex.Kinds.r lu-complex.Reads.Asked lu-complex.Reads.Post
elchepur-lu-decomp-complex-once κs a = (
  tt,
  λ o p. four-parts (λ (r : ℕ) (a : Parts) (ip : List ℕ) (column : ℕ). r ▹ tt ▹ a.re ▹ a.im ▹ ip ▹ column ▹ tt),
)

pub elchepur-lin-solve-once : Settles lin-solve.Kinds.ps lin-solve.Kinds.r lin-solve.Reads.Asked lin-solve.Reads.Post
elchepur-lin-solve-once κs a = (tt, λ o p. two-parts (λ (r : ℕ) (b : List Float). r ▹ tt ▹ tt ▹ b ▹ tt ▹ tt))

pub elchepur-lin-solve-complex-once
    : Settles solve-complex.Kinds.ps solve-complex.Kinds.r solve-complex.Reads.Asked solve-complex.Reads.Post
elchepur-lin-solve-complex-once κs a =
    (tt, λ o p. two-parts (λ (r : ℕ) (b : Parts). r ▹ tt ▹ tt ▹ tt ▹ b.re ▹ b.im ▹ tt ▹ tt))

pub elchepur-open-once : Settles opens.Kinds.ps opens.Kinds.r opens.Reads.Asked opens.Reads.Post
elchepur-open-once κs a = (
  tt,
  λ o p. one-part (λ (l : Left).
      l.crossed.number ▹ tt ▹ tt ▹ tt ▹ tt ▹ tt ▹ tt ▹ tt ▹ tt ▹ l.crossed.words ▹ l.crossed.doubles ▹
      l.crossed.told ▹ l.crossed.at
      ▹ tt ▹ l.memory.amounts.f0 ▹ l.memory.amounts.scal ▹ l.memory.amounts.cont ▹ l.memory.newton.z1
      ▹ l.memory.newton.z2 ▹ l.memory.newton.z3 ▹ l.memory.newton.f1 ▹ l.memory.newton.f2
      ▹ l.memory.newton.f3 ▹ l.memory.given.rtol ▹ l.memory.given.atol ▹ l.memory.given.mass
      ▹ l.memory.given.jac ▹ l.memory.factors.e1 ▹ l.memory.factors.e2r ▹ l.memory.factors.e2i
      ▹ l.memory.factors.ip1 ▹ l.memory.factors.ip2 ▹ l.memory.differences.y_perturbed
      ▹ l.memory.differences.f_perturbed ▹ l.memory.differences.f_origin ▹ tt),
)

pub elchepur-advance-once : Settles advance.Kinds.ps advance.Kinds.r advance.Reads.Asked advance.Reads.Post
elchepur-advance-once κs a = (
  tt,
  λ o p. one-part (λ (l : Left).
      l.crossed.number ▹ l.crossed.words ▹ l.crossed.doubles ▹ tt ▹ tt ▹
      l.crossed.told ▹ l.crossed.at ▹ l.memory.amounts.y ▹ tt
      ▹ l.memory.amounts.scal ▹ l.memory.amounts.cont ▹ l.memory.newton.z1 ▹ l.memory.newton.z2
      ▹ l.memory.newton.z3 ▹ l.memory.newton.f1 ▹ l.memory.newton.f2 ▹ l.memory.newton.f3 ▹ tt ▹ tt ▹ tt
      ▹ l.memory.given.jac ▹ l.memory.factors.e1 ▹ l.memory.factors.e2r ▹ l.memory.factors.e2i
      ▹ l.memory.factors.ip1 ▹ l.memory.factors.ip2 ▹ l.memory.differences.y_perturbed
      ▹ l.memory.differences.f_perturbed ▹ l.memory.differences.f_origin ▹ tt),
)

pub elchepur-result-once : Settles result.Kinds.ps result.Kinds.r result.Reads.Asked result.Reads.Post
elchepur-result-once κs a = (tt, λ o p. one-part (λ (e : Ended). e.number ▹ tt ▹ tt ▹ e.numbers ▹ e.floats ▹ tt))
