-- Each contract settles its call: it asks nothing, and two outcomes that it allows for one input are the same answer
-- and the same memory.
use Prim.Native.Nat.{ℕ}
use mathlib.Core.List.{List}
use lib.Ieee.{Float}
use Rattle.state.specs.declared.lent.Newton.{Newton}
use Rattle.state.specs.declared.lent.Factors.{Factors}
use Rattle.state.specs.declared.lent.Differences.{Differences}
use Rattle.words.specs.Contract.{Settles}
use Rattle.words.proofs.OneOutcome.{◌▹◌, one-part, one-result}
use Rattle.state.proofs.numbers.status_number as status-number
use Rattle.state.proofs.numbers.refusal_number as refusal-number
use Rattle.state.proofs.numbers.singular_kind as singular-kind
use Rattle.state.proofs.numbers.singular_column as singular-column
use Rattle.state.proofs.numbers.blame_kind as blame-kind
use Rattle.state.proofs.numbers.blame_column as blame-column
use Rattle.state.proofs.numbers.smallest_stride as smallest-stride
use Rattle.state.proofs.numbers.largest_stride as largest-stride
use Rattle.state.proofs.run.Run.result as result
use Rattle.state.proofs.run.Run.held_step as held-step
use Rattle.state.proofs.run.blamed as blamed
use Rattle.state.proofs.settings.Settings.new as new
use Rattle.state.proofs.stray.stray_pivot as stray-pivot
use Rattle.state.proofs.lent.Newton.fits as newton-fits
use Rattle.state.proofs.lent.Newton.clear as newton-clear
use Rattle.state.proofs.lent.Factors.fits as factors-fits
use Rattle.state.proofs.lent.Factors.clear as factors-clear
use Rattle.state.proofs.lent.Differences.fits as differences-fits
use Rattle.state.proofs.lent.Differences.clear as differences-clear
use Rattle.state.proofs.parts.zero as zero
use Rattle.state.proofs.parts.zero_pivots as zero-pivots

pub status-number-once
    : Settles status-number.Kinds.ps status-number.Kinds.r status-number.Reads.Asked status-number.Reads.Post
status-number-once κs a = (tt, λ o p. one-result o.1)

pub refusal-number-once
    : Settles refusal-number.Kinds.ps refusal-number.Kinds.r refusal-number.Reads.Asked refusal-number.Reads.Post
refusal-number-once κs a = (tt, λ o p. one-result o.1)

pub singular-kind-once
    : Settles singular-kind.Kinds.ps singular-kind.Kinds.r singular-kind.Reads.Asked singular-kind.Reads.Post
singular-kind-once κs a = (tt, λ o p. one-result o.1)

pub singular-column-once
    : Settles singular-column.Kinds.ps singular-column.Kinds.r singular-column.Reads.Asked singular-column.Reads.Post
singular-column-once κs a = (tt, λ o p. one-result o.1)

pub blame-kind-once : Settles blame-kind.Kinds.ps blame-kind.Kinds.r blame-kind.Reads.Asked blame-kind.Reads.Post
blame-kind-once κs a = (tt, λ o p. one-result o.1)

pub blame-column-once
    : Settles blame-column.Kinds.ps blame-column.Kinds.r blame-column.Reads.Asked blame-column.Reads.Post
blame-column-once κs a = (tt, λ o p. one-result o.1)

pub smallest-stride-once
    : Settles smallest-stride.Kinds.ps smallest-stride.Kinds.r smallest-stride.Reads.Asked smallest-stride.Reads.Post
smallest-stride-once κs a = (tt, λ o p. one-result o.1)

pub largest-stride-once
    : Settles largest-stride.Kinds.ps largest-stride.Kinds.r largest-stride.Reads.Asked largest-stride.Reads.Post
largest-stride-once κs a = (tt, λ o p. one-result o.1)

pub result-once : Settles result.Kinds.ps result.Kinds.r result.Reads.Asked result.Reads.Post
result-once κs a = (tt, λ o p. one-result o.1)

pub blamed-once : Settles blamed.Kinds.ps blamed.Kinds.r blamed.Reads.Asked blamed.Reads.Post
blamed-once κs a = (tt, λ o p. one-result o.1)

pub held-step-once : Settles held-step.Kinds.ps held-step.Kinds.r held-step.Reads.Asked held-step.Reads.Post
held-step-once κs a = (tt, λ o p. one-result o.1)

pub new-once : Settles new.Kinds.ps new.Kinds.r new.Reads.Asked new.Reads.Post
new-once κs a = (tt, λ o p. one-result o.1)

pub stray-pivot-once : Settles stray-pivot.Kinds.ps stray-pivot.Kinds.r stray-pivot.Reads.Asked stray-pivot.Reads.Post
stray-pivot-once κs a = (tt, λ o p. one-result o.1)

pub zero-once : Settles zero.Kinds.ps zero.Kinds.r zero.Reads.Asked zero.Reads.Post
zero-once κs a = (tt, λ o p. one-part (λ (part : List Float). tt ▹ part ▹ tt))

pub zero-pivots-once : Settles zero-pivots.Kinds.ps zero-pivots.Kinds.r zero-pivots.Reads.Asked zero-pivots.Reads.Post
zero-pivots-once κs a = (tt, λ o p. one-part (λ (part : List ℕ). tt ▹ part ▹ tt))

pub newton-fits-once : Settles newton-fits.Kinds.ps newton-fits.Kinds.r newton-fits.Reads.Asked newton-fits.Reads.Post
newton-fits-once κs a = (tt, λ o p. one-result o.1)

pub newton-clear-once
    : Settles newton-clear.Kinds.ps newton-clear.Kinds.r newton-clear.Reads.Asked newton-clear.Reads.Post
newton-clear-once κs a = (tt, λ o p. λ e f. one-part (λ (w : Newton). tt ▹ w ▹ tt) e.1.1 f.1.1)

pub factors-fits-once
    : Settles factors-fits.Kinds.ps factors-fits.Kinds.r factors-fits.Reads.Asked factors-fits.Reads.Post
factors-fits-once κs a = (tt, λ o p. one-result o.1)

pub factors-clear-once
    : Settles factors-clear.Kinds.ps factors-clear.Kinds.r factors-clear.Reads.Asked factors-clear.Reads.Post
factors-clear-once κs a = (tt, λ o p. λ e f. one-part (λ (w : Factors). tt ▹ w ▹ tt) e.1.1 f.1.1)

pub differences-fits-once
    : Settles differences-fits.Kinds.ps differences-fits.Kinds.r
    differences-fits.Reads.Asked differences-fits.Reads.Post
differences-fits-once κs a = (tt, λ o p. one-result o.1)

pub differences-clear-once
    : Settles differences-clear.Kinds.ps differences-clear.Kinds.r
    differences-clear.Reads.Asked differences-clear.Reads.Post
differences-clear-once κs a = (tt, λ o p. λ e f. one-part (λ (w : Differences). tt ▹ w ▹ tt) e.1.1 f.1.1)
