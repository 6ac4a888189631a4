-- What each loop of `stray_among` keeps.
use mathlib.Core.Bool.{false}
use Rattle.words.proofs.Loops.{Ran, Any}
use Rattle.state.specs.Pivots.{stray_at}
use Rattle.state.proofs.stray.stray_among.Given as goal

abbrev pub invariant-loop-k : goal.invariant-loop-k
invariant-loop-k l = Ran (stray_at l.n l.ip) Any 0 l.count l.k false l.found
