-- `turn` meets its contract.
use Rattle.opening.specs.Tolerances.{turn_at}
use Rattle.opening.proofs.tolerances.turn.Goals as goal

pub returns : goal.returns
unfolding turn_at
returns c = rw c.two_thirds-rtol.ensures
