-- `first` meets its contract.
use native.Mathlib.Omega.{arith}
use Rattle.opening.proofs.PartLaws.{found, searched}
use Rattle.opening.proofs.parts.first.Goals as goal

pub returns-then-holds : goal.returns-then-holds
returns-then-holds g c = found c.loop-place.invariant (omega arith) (cc)

pub returns : goal.returns
returns g c = searched c.loop-place.invariant c.loop-place-test.false
