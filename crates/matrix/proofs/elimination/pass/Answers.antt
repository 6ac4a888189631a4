-- `pass` meets its contract.
use Rattle.matrix.proofs.Passes.{pivot-zero, pivot-used}
use Rattle.matrix.proofs.elimination.pass.Goals as goal

pub returns-then-is_zero : goal.returns-then-is_zero
returns-then-is_zero g c = pivot-zero g.E.Entry.kind _ _ _ _ _ c.find_pivot-m.ensures.value
    (rw (← c.at-pivot.ensures.of_kind, ← c.is_zero.ensures) c.if-is_zero.true)

pub returns : goal.returns
returns g c = pivot-used g.E.Entry.kind _ _ _ _ _ c.find_pivot-m.ensures.value
    (rw (← c.at-pivot.ensures.of_kind, ← c.is_zero.ensures) c.if-is_zero.false) c.eliminate.ensures
