-- What the loop of `wide_digits` keeps.
use Rattle.std.proofs.Common.{◌*◌, ◌^◌, ◌≤◌}
use Rattle.scalar.specs.Steps.{Digits}
use Rattle.scalar.proofs.digits.wide_digits.Given as goal

abbrev pub invariant-loop : goal.invariant-loop
invariant-loop l = (l.counter ≤ 26) × Digits (l.m * 2 ^ (2 * l.counter)) l.cut.q l.cut.rem
