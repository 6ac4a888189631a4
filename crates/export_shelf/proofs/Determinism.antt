-- Each contract settles its call: it asks nothing, and two outcomes that it allows for one input are the same answer
-- and the same memory.
use Prim.Native.Nat.{ℕ}
use mathlib.Core.List.{List}
use lib.Ieee.{Float}
use Rattle.words.specs.Contract.{Settles}
use Rattle.words.proofs.OneOutcome.{◌▹◌, one-part, two-parts, four-parts}
use Rattle.export_shelf.proofs.shelves.elchepur_empty_shelf as empty
use Rattle.export_shelf.proofs.shelves.elchepur_put_on_shelf as put
use Rattle.export_shelf.proofs.shelves.elchepur_ask_shelf as ask

pub elchepur-empty-shelf-once : Settles empty.Kinds.ps empty.Kinds.r empty.Reads.Asked empty.Reads.Post
elchepur-empty-shelf-once κs a = (tt, λ o p. one-part (λ (words : List ℕ). tt ▹ words ▹ tt))

pub elchepur-put-on-shelf-once : Settles put.Kinds.ps put.Kinds.r put.Reads.Asked put.Reads.Post
elchepur-put-on-shelf-once κs a = (
  tt,
  λ o p. four-parts (λ (r : ℕ) (words : List ℕ) (cs es : List Float). r ▹ words ▹ tt ▹ tt ▹ tt ▹ cs ▹ es ▹ tt),
)

pub elchepur-ask-shelf-once : Settles ask.Kinds.ps ask.Kinds.r ask.Reads.Asked ask.Reads.Post
elchepur-ask-shelf-once κs a =
    (tt, λ o p. two-parts (λ (r : ℕ) (target : List Float). r ▹ tt ▹ tt ▹ target ▹ tt ▹ tt ▹ tt))
