-- What the loop of `between` keeps.
use Rattle.std.proofs.Common.{◌-◌}
use Rattle.scalar.specs.Steps.{Ends}
use Rattle.scalar.proofs.roots.Sought.between.Given as goal

abbrev pub invariant-loop-high : goal.invariant-loop-high
invariant-loop-high l = Ends l.self.m l.self.v l.low l.high

abbrev pub decreases-loop-high : goal.decreases-loop-high
decreases-loop-high l = l.high - l.low
