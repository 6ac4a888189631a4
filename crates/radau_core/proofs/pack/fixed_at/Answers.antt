-- `fixed_at` meets its contract.
use Rattle.radau_core.proofs.pack.fixed_at.Goals as goal

pub returns : goal.returns
returns c = rw c.tolerances_at.ensures
