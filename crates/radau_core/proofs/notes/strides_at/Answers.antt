-- `strides_at` meets its contract.
use Rattle.radau_core.specs.Choices.{strides_of}
use Rattle.radau_core.proofs.notes.strides_at.Goals as goal

pub returns : goal.returns
unfolding strides_of
returns c = c.option_at.ensures
