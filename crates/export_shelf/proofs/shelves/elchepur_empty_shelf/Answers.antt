-- `elchepur_empty_shelf` meets its contract.
use mathlib.Core.Path.{ap}
use Rattle.export_shelf.specs.Border.{shelf_words}
use Rattle.export_shelf.proofs.shelves.elchepur_empty_shelf.Goals as goal

pub returns : goal.returns
returns c = ap shelf_words c.empty-empty.ensures
