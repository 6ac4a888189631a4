-- Each contract settles its call: it asks nothing, and two outcomes that it allows for one input are the same answer
-- and the same memory.
use Prim.Native.Nat.{ℕ}
use mathlib.Core.List.{List}
use Rattle.words.specs.Contract.{Settles}
use Rattle.words.proofs.OneOutcome.{◌▹◌, one-part, two-parts}
use Rattle.export_totals.specs.Border.{TotalsTold, TotalsJoined}
use Rattle.export_totals.proofs.nights.elchepur_totals_start as start
use Rattle.export_totals.proofs.nights.elchepur_totals_fed as fed
use Rattle.export_totals.proofs.nights.elchepur_totals_told as told
use Rattle.export_totals.proofs.nights.elchepur_totals_printed as printed
use Rattle.export_totals.proofs.depots.elchepur_totals_join as join

pub elchepur-totals-start-once : Settles start.Kinds.ps start.Kinds.r start.Reads.Asked start.Reads.Post
elchepur-totals-start-once κs a = (tt, λ o p. one-part (λ (night : List ℕ). tt ▹ night ▹ tt))

pub elchepur-totals-fed-once : Settles fed.Kinds.ps fed.Kinds.r fed.Reads.Asked fed.Reads.Post
elchepur-totals-fed-once κs a = (tt, λ o p. one-part (λ (night : List ℕ). tt ▹ night ▹ tt ▹ tt))

pub elchepur-totals-told-once : Settles told.Kinds.ps told.Kinds.r told.Reads.Asked told.Reads.Post
elchepur-totals-told-once κs a =
    (tt, λ o p. one-part (λ (l : TotalsTold). l.number ▹ tt ▹ l.totals ▹ l.line ▹ tt))

pub elchepur-totals-printed-once : Settles printed.Kinds.ps printed.Kinds.r printed.Reads.Asked printed.Reads.Post
elchepur-totals-printed-once κs a =
    (tt, λ o p. λ e f. two-parts (λ (out : List ℕ) (r : ℕ). r ▹ tt ▹ out ▹ tt) (e.0, e.1) (f.0, f.1))

pub elchepur-totals-join-once : Settles join.Kinds.ps join.Kinds.r join.Reads.Asked join.Reads.Post
elchepur-totals-join-once κs a = (tt, λ o p. one-part (λ (l : TotalsJoined). l.number ▹ tt ▹ tt ▹ l.totals ▹ tt))
