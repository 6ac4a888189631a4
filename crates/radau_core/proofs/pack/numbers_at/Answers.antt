-- `numbers_at` meets its contract.
use Rattle.radau_core.proofs.pack.numbers_at.Goals as goal

pub returns : goal.returns
returns c = rw c.option_at.ensures
