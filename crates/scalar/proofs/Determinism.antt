-- Each contract settles its call: it asks nothing, and two outcomes that it allows for one input are the same.
use Rattle.words.specs.Contract.{Settles}
use Rattle.words.proofs.OneOutcome.{one-result}
use Rattle.scalar.proofs.coefficients.coefficient as coefficient
use Rattle.scalar.proofs.order.abs as abs
use Rattle.scalar.proofs.order.max as max
use Rattle.scalar.proofs.order.min as min
use Rattle.scalar.proofs.order.clamp as clamp
use Rattle.scalar.proofs.order.signum as signum
use Rattle.scalar.proofs.powers.power as power
use Rattle.scalar.proofs.powers.two_thirds as two-thirds
use Rattle.scalar.proofs.powers.four_fifths as four-fifths
use Rattle.scalar.proofs.powers.quarter as quarter
use Rattle.scalar.proofs.powers.inverse_root as inverse-root
use Rattle.scalar.proofs.roots.root as root
use Rattle.scalar.proofs.square_root.sqrt as sqrt

pub coefficient-once : Settles coefficient.Kinds.ps coefficient.Kinds.r coefficient.Reads.Asked coefficient.Reads.Post
coefficient-once κs a = (tt, λ o p. λ e f. one-result o.1 e.0 f.0)

pub abs-once : Settles abs.Kinds.ps abs.Kinds.r abs.Reads.Asked abs.Reads.Post
abs-once κs a = (tt, λ o p. one-result o.1)

pub max-once : Settles max.Kinds.ps max.Kinds.r max.Reads.Asked max.Reads.Post
max-once κs a = (tt, λ o p. one-result o.1)

pub min-once : Settles min.Kinds.ps min.Kinds.r min.Reads.Asked min.Reads.Post
min-once κs a = (tt, λ o p. one-result o.1)

pub clamp-once : Settles clamp.Kinds.ps clamp.Kinds.r clamp.Reads.Asked clamp.Reads.Post
clamp-once κs a = (tt, λ o p. one-result o.1)

pub signum-once : Settles signum.Kinds.ps signum.Kinds.r signum.Reads.Asked signum.Reads.Post
signum-once κs a = (tt, λ o p. one-result o.1)

pub power-once : Settles power.Kinds.ps power.Kinds.r power.Reads.Asked power.Reads.Post
power-once κs a = (tt, λ o p. one-result o.1)

pub two-thirds-once : Settles two-thirds.Kinds.ps two-thirds.Kinds.r two-thirds.Reads.Asked two-thirds.Reads.Post
two-thirds-once κs a = (tt, λ o p. one-result o.1)

pub four-fifths-once : Settles four-fifths.Kinds.ps four-fifths.Kinds.r four-fifths.Reads.Asked four-fifths.Reads.Post
four-fifths-once κs a = (tt, λ o p. one-result o.1)

pub quarter-once : Settles quarter.Kinds.ps quarter.Kinds.r quarter.Reads.Asked quarter.Reads.Post
quarter-once κs a = (tt, λ o p. one-result o.1)

pub inverse-root-once
    : Settles inverse-root.Kinds.ps inverse-root.Kinds.r inverse-root.Reads.Asked inverse-root.Reads.Post
inverse-root-once κs a = (tt, λ o p. one-result o.1)

pub root-once : Settles root.Kinds.ps root.Kinds.r root.Reads.Asked root.Reads.Post
root-once κs a = (tt, λ o p. one-result o.1)

pub sqrt-once : Settles sqrt.Kinds.ps sqrt.Kinds.r sqrt.Reads.Asked sqrt.Reads.Post
sqrt-once κs a = (tt, λ o p. λ e f. one-result o.1 e.0 f.0)
