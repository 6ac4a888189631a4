-- `zero_pivots` meets its contract.
use Rattle.state.specs.Memory.{noughts}
use Rattle.state.proofs.parts.zero_pivots.Goals as goal

pub returns : goal.returns
unfolding noughts
returns c = c.fill.ensures.after (λ y e. e)
