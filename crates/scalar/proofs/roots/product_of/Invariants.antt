-- What each loop of `product_of` keeps.
use Prim.Native.Nat.{◌-◌}
use Rattle.words.proofs.Loops.{Ran, Any}
use Rattle.scalar.specs.Products.{times_at}
use Rattle.scalar.proofs.roots.product_of.Given as goal

abbrev pub invariant-loop : goal.invariant-loop
invariant-loop l = Ran (times_at l.x) Any 1 l.m l.counter l.x l.p

abbrev pub decreases-loop : goal.decreases-loop
decreases-loop l = l.m - l.counter
