-- `update` of real entries meets its contract.
use native.Mathlib.Omega.{arith}
use Rattle.words.specs.Grid.{Square}
use Rattle.matrix.specs.Lu.{real}
use Rattle.matrix.specs.Reordered.{added_of}
use Rattle.matrix.proofs.Cells.{real-lawful}
use Rattle.matrix.proofs.Rows.{by_rows}
use Rattle.matrix.proofs.real_entry.F64Update.update.Goals as goal

pub returns : goal.returns
returns c = by_rows real Square added_of real-lawful _ _ (omega arith) _ c.requires.matrix.0 c.swap_rows.ensures
    c.update_rows.ensures
