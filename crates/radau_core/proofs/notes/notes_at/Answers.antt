-- `notes_at` meets its contract.
use Rattle.radau_core.proofs.notes.notes_at.Goals as goal

pub returns : goal.returns
returns c = rw (c.strides_at.ensures, c.singular_at.ensures)
