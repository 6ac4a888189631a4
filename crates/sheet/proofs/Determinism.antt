-- Each contract settles its call: it asks nothing, and two outcomes that it allows for one input are the same answer
-- and the same memory.
use Prim.Native.Nat.{ℕ}
use mathlib.Core.List.{List}
use Rattle.words.specs.Contract.{Settles}
use Rattle.words.proofs.OneOutcome.{◌▹◌, one-result, four-parts}
use Rattle.std.proofs.Common.{Result}
use Rattle.sheet.specs.declared.sheet.Heading.{Heading}
use Rattle.sheet.specs.declared.sheet.SheetError.{SheetError}
use Rattle.sheet.proofs.kind.kind_at as kind_at
use Rattle.sheet.proofs.spelling.Notation.base as base
use Rattle.sheet.proofs.spelling.Notation.width as width
use Rattle.sheet.proofs.sheet.rule_from as rule_from
use Rattle.sheet.proofs.sheet.rule_number as rule_number
use Rattle.sheet.proofs.sheet.read as read

pub kind-at-once : Settles kind_at.Kinds.ps kind_at.Kinds.r kind_at.Reads.Asked kind_at.Reads.Post
kind-at-once κs a = (tt, λ o p. one-result o.1)

pub base-once : Settles base.Kinds.ps base.Kinds.r base.Reads.Asked base.Reads.Post
base-once κs a = (tt, λ o p. one-result o.1)

pub width-once : Settles width.Kinds.ps width.Kinds.r width.Reads.Asked width.Reads.Post
width-once κs a = (tt, λ o p. one-result o.1)

pub rule-from-once : Settles rule_from.Kinds.ps rule_from.Kinds.r rule_from.Reads.Asked rule_from.Reads.Post
rule-from-once κs a = (tt, λ o p. one-result o.1)

pub rule-number-once : Settles rule_number.Kinds.ps rule_number.Kinds.r rule_number.Reads.Asked rule_number.Reads.Post
rule-number-once κs a = (tt, λ o p. one-result o.1)

pub read-once : Settles read.Kinds.ps read.Kinds.r read.Reads.Asked read.Reads.Post
read-once κs a = (
  tt,
  λ o p. λ e f. four-parts (λ (answer : Result Heading SheetError) (amounts rates species : List ℕ).
      answer ▹ tt ▹ amounts ▹ rates ▹ species ▹ tt)
      (e.0, e.1.0, e.1.1.0, e.1.1.1) (f.0, f.1.0, f.1.1.0, f.1.1.1),
)
