-- What the loop of `spelled` keeps.
use Rattle.std.proofs.Common.{◌≡◌, ◌<◌, drop}
use Rattle.sheet.specs.Digits.{spelled_of, power}
use Rattle.sheet.proofs.digits.spelled.Given as goal

abbrev pub invariant-loop-byte : goal.invariant-loop-byte
invariant-loop-byte l =
    (l.value < power 16 l.byte-index)
    × (spelled_of l.base l.value (drop l.byte-index l.text) ≡ spelled_of l.base 0 l.text)
