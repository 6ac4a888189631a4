-- What each loop of `power` keeps.
use Prim.Native.Nat.{◌-◌}
use Rattle.words.specs.Constants.{«1·0»}
use Rattle.words.proofs.Loops.{Ran, Any}
use Rattle.scalar.specs.Products.{times_at}
use Rattle.scalar.proofs.powers.power.Given as goal

abbrev pub invariant-loop : goal.invariant-loop
invariant-loop l = Ran (times_at l.x) Any 0 l.n l.counter «1·0» l.p

abbrev pub decreases-loop : goal.decreases-loop
decreases-loop l = l.n - l.counter
