-- What the loop of `numbers` keeps.
use Rattle.std.proofs.Common.{length}
use Rattle.sheet.specs.Kinds.{kind_of}
use Rattle.sheet.proofs.NumbersLaws.{Left}
use Rattle.sheet.proofs.numbers.numbers.Given as goal

abbrev pub invariant-loop-i : goal.invariant-loop-i
invariant-loop-i l =
    Left (kind_of l.phase l.species) (length l.initial.store) l.initial.lines l.initial.rest l.store l.i l.lines l.rest
