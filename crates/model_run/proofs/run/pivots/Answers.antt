-- `pivots` meets its contract.
use borrow.Author.Rules.{rules}
use Rattle.state.specs.Memory.{noughts}
use Rattle.model_run.proofs.run.pivots.Goals as goal

pub returns : goal.returns
unfolding noughts
returns c = search rules
