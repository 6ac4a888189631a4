-- Each contract settles its call: it asks nothing, and two outcomes that it allows for one input are the same answer
-- and the same memory.
use Rattle.std.proofs.Common.{ℕ, List}
use Rattle.words.specs.Contract.{Settles}
use Rattle.words.proofs.OneOutcome.{◌▹◌, one-result, two-parts}
use Rattle.night_totals.proofs.counts.Counts.added as added
use Rattle.night_totals.proofs.counts.Counts.within as within
use Rattle.night_totals.proofs.counts.Runs.joined as joined
use Rattle.night_totals.proofs.counts.Runs.counted as counted
use Rattle.night_totals.proofs.form.blank as blank
use Rattle.night_totals.proofs.form.filled as filled
use Rattle.night_totals.proofs.night.start as start
use Rattle.night_totals.proofs.night.fed as fed
use Rattle.night_totals.proofs.night.told as told
use Rattle.night_totals.proofs.printed.print as print

pub added-once : Settles added.Kinds.ps added.Kinds.r added.Reads.Asked added.Reads.Post
added-once κs a = (tt, λ o p. one-result o.1)

pub within-once : Settles within.Kinds.ps within.Kinds.r within.Reads.Asked within.Reads.Post
within-once κs a = (tt, λ o p. one-result o.1)

pub joined-once : Settles joined.Kinds.ps joined.Kinds.r joined.Reads.Asked joined.Reads.Post
joined-once κs a = (tt, λ o p. one-result o.1)

pub counted-once : Settles counted.Kinds.ps counted.Kinds.r counted.Reads.Asked counted.Reads.Post
counted-once κs a = (tt, λ o p. one-result o.1)

pub blank-once : Settles blank.Kinds.ps blank.Kinds.r blank.Reads.Asked blank.Reads.Post
blank-once κs a = (tt, λ o p. one-result o.1)

pub filled-once : Settles filled.Kinds.ps filled.Kinds.r filled.Reads.Asked filled.Reads.Post
filled-once κs a = (tt, λ o p. one-result o.1)

pub start-once : Settles start.Kinds.ps start.Kinds.r start.Reads.Asked start.Reads.Post
start-once κs a = (tt, λ o p. one-result o.1)

pub fed-once : Settles fed.Kinds.ps fed.Kinds.r fed.Reads.Asked fed.Reads.Post
fed-once κs a = (tt, λ o p. one-result o.1)

pub told-once : Settles told.Kinds.ps told.Kinds.r told.Reads.Asked told.Reads.Post
told-once κs a = (tt, λ o p. one-result o.1)

pub print-once : Settles print.Kinds.ps print.Kinds.r print.Reads.Asked print.Reads.Post
print-once κs a =
    (tt, λ o p. λ e f. two-parts (λ (out : List ℕ) (r : ℕ). r ▹ tt ▹ out ▹ tt) (e.0, e.1.0) (f.0, f.1.0))
