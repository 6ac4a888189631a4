-- `elchepur_bounds` meets its contract: the ends are `dense`'s own.
use mathlib.Core.Path.{ap}
use Rattle.export.specs.Ends.{ends_of}
use Rattle.export.proofs.dense_output.elchepur_bounds.Goals as goal

pub returns : goal.returns
returns c = ap ends_of c.bounds-bounds.ensures
