-- What each loop of `turn_scalars` keeps.
use Prim.Native.Nat.{◌-◌}
use Rattle.words.proofs.Loops.{Ran, Any}
use Rattle.opening.specs.Tolerances.{turn_at}
use Rattle.opening.proofs.tolerances.turn_scalars.Given as goal

abbrev pub invariant-loop : goal.invariant-loop
invariant-loop l = Ran turn_at Any 0 l.count l.counter l.initial.q l.q

abbrev pub decreases-loop : goal.decreases-loop
decreases-loop l = l.count - l.counter
