-- `inverse_root` meets its contract.
use Rattle.scalar.proofs.powers.inverse_root.Goals as goal

pub returns : goal.returns
returns c = rw c.root.ensures
