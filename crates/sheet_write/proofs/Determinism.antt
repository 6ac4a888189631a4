-- Each contract settles its call: it asks nothing, and two outcomes that it allows for one input are the same answer
-- and the same memory.
use Prim.Native.Nat.{ℕ}
use mathlib.Core.List.{List}
use Rattle.words.specs.Contract.{Settles}
use Rattle.words.proofs.OneOutcome.{◌▹◌, one-result, two-parts}
use Rattle.sheet_write.specs.Writer.{Writing}
use Rattle.sheet_write.proofs.writing.write as write
use Rattle.sheet_write.proofs.writing.writing_number as writing_number
use Rattle.sheet_write.proofs.rewriting.rewrite as rewrite

pub write-once : Settles write.Kinds.ps write.Kinds.r write.Reads.Asked write.Reads.Post
write-once κs a = (
  tt,
  λ o p. λ e f. two-parts (λ (answer : Writing) (out : List ℕ). answer ▹ tt ▹ tt ▹ tt ▹ tt ▹ out ▹ tt)
      (e.0, e.1) (f.0, f.1),
)

pub writing-number-once
    : Settles writing_number.Kinds.ps writing_number.Kinds.r writing_number.Reads.Asked writing_number.Reads.Post
writing-number-once κs a = (tt, λ o p. one-result o.1)

pub rewrite-once : Settles rewrite.Kinds.ps rewrite.Kinds.r rewrite.Reads.Asked rewrite.Reads.Post
rewrite-once κs a =
    (tt, λ o p. λ e f. two-parts (λ (out : List ℕ) (r : ℕ). r ▹ tt ▹ out ▹ tt) (e.0, e.1) (f.0, f.1))
