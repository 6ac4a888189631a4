-- `zero` meets its contract.
use Rattle.state.specs.Memory.{zeros}
use Rattle.state.proofs.parts.zero.Goals as goal

pub returns : goal.returns
unfolding zeros
returns c = c.fill.ensures.after (λ y e. e)
