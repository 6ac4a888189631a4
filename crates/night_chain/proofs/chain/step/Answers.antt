-- `step` meets its contract.
use Rattle.forecast_text.specs.Printed.{text}
use Rattle.night_chain.specs.Chain.{step_of}
use Rattle.night_chain.proofs.chain.step.Goals as goal

pub returns-in-Open : goal.returns-in-Open
unfolding step_of text
returns-in-Open c = rw c.in-Open.is (rw c.filled-next.ensures at c.taken.ensures)
