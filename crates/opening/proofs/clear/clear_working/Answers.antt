-- `clear_working` meets its contract.
use Rattle.opening.proofs.clear.clear_working.Goals as goal

pub returns : goal.returns
returns c = rw (c.zero.ensures, c.zero-2.ensures, c.zero-3.ensures, c.zero-4.ensures)
