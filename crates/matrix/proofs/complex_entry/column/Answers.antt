-- `column` meets its contract.
use mathlib.Core.Path.{◌∙◌}
use native.Mathlib.Omega.{arith}
use Rattle.words.proofs.Branch.{yes, no}
use Rattle.matrix.specs.Elimination.{column_at}
use Rattle.matrix.proofs.Cases.{one-loop, not-zero, zero}
use Rattle.matrix.proofs.complex_entry.column.Goals as goal

pub returns-then-not-is_zero : goal.returns-then-not-is_zero
unfolding column_at
returns-then-not-is_zero c = yes _ _ _
    (rw (← c.at-t.ensures.of_kind) (not-zero _ (rw (← c.is_zero.ensures) c.if-not-is_zero.true)))
    (rw (
      c.update_column.ensures,
      c.swap.ensures,
      c.at-t.ensures.of_kind,
    ))
    ∙ one-loop _ _ _ _ (omega arith) _

pub returns-else-not-is_zero : goal.returns-else-not-is_zero
unfolding column_at
returns-else-not-is_zero c = no _ _ _
    (rw (← c.at-t.ensures.of_kind) (zero _ (rw (← c.is_zero.ensures) c.if-not-is_zero.false)))
    c.swap.ensures
    ∙ one-loop _ _ _ _ (omega arith) _
