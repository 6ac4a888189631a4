-- What the loop of `put_numbers` keeps.
use Rattle.std.proofs.Common.{◌≡◌, take}
use Rattle.sheet.specs.Kinds.{kind_of}
use Rattle.sheet.specs.Writes.{writes}
use Rattle.forecast_text.specs.Put.{put}
use Rattle.sheet_write.proofs.numbers.put_numbers.Given as goal

abbrev pub invariant-loop-i : goal.invariant-loop-i
invariant-loop-i l =
    l.sheet ≡ put 4096 l.initial.sheet (writes (kind_of l.phase l.species) 0 (take l.i l.values))
