-- `update_row` meets its contract.
use mathlib.Core.Path.{refl, sym, ◌∙◌}
use native.Mathlib.Omega.{arith}
use Rattle.words.specs.Grid.{Square}
use Rattle.words.proofs.Loops.{begun, turned, ended}
use Rattle.matrix.specs.Lu.{real}
use Rattle.matrix.specs.Reordered.{added_of}
use Rattle.matrix.proofs.Cells.{real-lawful}
use Rattle.matrix.proofs.Rows.{row-turn, row-early}
use Rattle.matrix.proofs.real_entry.update_row.Goals as goal

pub loop-j-init : goal.loop-j-init
loop-j-init c = begun (omega arith) (c.requires.square, sym c.at-x.ensures) refl

pub loop-j-preserved : goal.loop-j-preserved
loop-j-preserved c = let r = row-turn real Square added_of real-lawful _ _ (omega arith) _ _ (omega arith) (omega arith)
    c.loop-j.invariant.kept.1
    c.at.ensures
    c.at-in-loop-j.ensures c.added-y.ensures
    c.put.ensures in
    turned c.loop-j.invariant
    (omega arith) (omega arith, r.0) r.1

pub returns : goal.returns
returns c = ended c.loop-j.invariant c.loop-j-test.false
    ∙ row-early real Square added_of real-lawful _ _ (omega arith) _ _ (omega arith) _
    c.requires.idle_from
