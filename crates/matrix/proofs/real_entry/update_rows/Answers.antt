-- `update_rows` meets its contract.
use mathlib.Core.Path.{refl, sym, subst}
use native.Mathlib.Omega.{arith}
use Rattle.words.specs.Grid.{Square}
use Rattle.words.proofs.Loops.{begun, turned, ended}
use Rattle.matrix.specs.Lu.{real}
use Rattle.matrix.specs.Reordered.{IdleFrom, added_of}
use Rattle.matrix.proofs.Cells.{real-lawful}
use Rattle.matrix.proofs.Rows.{row-idle}
use Rattle.matrix.proofs.real_entry.update_rows.Goals as goal

pub loop-i-init : goal.loop-i-init
loop-i-init c = begun (omega arith) (c.requires.square, c.multipliers_end-end.ensures) refl

pub update_row-requires : goal.update_row-requires
update_row-requires c = record {
  square = c.loop-i.invariant.kept.0;
  k_lt_i = omega arith;
  idle_from = c.loop-i.invariant.kept.1;
}

pub loop-i-preserved : goal.loop-i-preserved
loop-i-preserved c = let inv = c.loop-i.invariant in
    let e = c.update_row.ensures in
    turned inv (omega arith) (
      omega arith,
      subst (IdleFrom real added_of _ _ _) (sym e)
          (row-idle real Square added_of real-lawful _ _ (omega arith) _ _ (omega arith) _ inv.kept.1),
    )
    e

pub returns : goal.returns
returns c = ended c.loop-i.invariant c.loop-i-test.false
