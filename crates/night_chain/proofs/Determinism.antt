-- Each contract settles its call: it asks nothing, and two outcomes that it allows for one input are the same answer
-- and the same memory.
use Rattle.std.proofs.Common.{ℕ, List}
use Rattle.words.specs.Contract.{Settles}
use Rattle.words.proofs.OneOutcome.{◌▹◌, one-result, two-parts}
use Rattle.night_chain.proofs.chain.start as start
use Rattle.night_chain.proofs.chain.fed as fed
use Rattle.night_chain.proofs.chain.told as told
use Rattle.night_chain.proofs.printed.print as print

pub start-once : Settles start.Kinds.ps start.Kinds.r start.Reads.Asked start.Reads.Post
start-once κs a = (tt, λ o p. one-result o.1)

pub fed-once : Settles fed.Kinds.ps fed.Kinds.r fed.Reads.Asked fed.Reads.Post
fed-once κs a = (tt, λ o p. one-result o.1)

pub told-once : Settles told.Kinds.ps told.Kinds.r told.Reads.Asked told.Reads.Post
told-once κs a = (tt, λ o p. one-result o.1)

pub print-once : Settles print.Kinds.ps print.Kinds.r print.Reads.Asked print.Reads.Post
print-once κs a =
    (tt, λ o p. λ e f. two-parts (λ (out : List ℕ) (r : ℕ). r ▹ tt ▹ out ▹ tt) (e.0, e.1.0) (f.0, f.1.0))
