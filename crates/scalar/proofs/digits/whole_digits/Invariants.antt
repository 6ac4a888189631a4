-- What the loop of `whole_digits` keeps.
use Rattle.std.proofs.Common.{◌*◌, ◌/◌, ◌^◌, ◌≤◌}
use Rattle.scalar.specs.Steps.{Digits}
use Rattle.scalar.proofs.digits.whole_digits.Given as goal

abbrev pub invariant-loop-left : goal.invariant-loop-left
invariant-loop-left l = (l.left ≤ 27) × Digits (l.m / 2 ^ (2 * l.left)) l.cut.q l.cut.rem
