-- `decompose` meets its contract.
use borrow.Author.Tests.{eq-eqb, ne_eqb}
use Rattle.matrix.proofs.Passes.{one-zero, one-done, several}
use Rattle.matrix.proofs.elimination.decompose.Goals as goal

pub returns-then-is_zero : goal.returns-then-is_zero
returns-then-is_zero g c = one-zero g.E.Entry.kind _ _ _ (eq-eqb _ _ c.if-n-eq1.true)
    (rw (← c.at.ensures.of_kind, ← c.is_zero.ensures) c.if-is_zero.true)

pub returns-then-n-eq1 : goal.returns-then-n-eq1
returns-then-n-eq1 g c = one-done g.E.Entry.kind _ _ _ (eq-eqb _ _ c.if-n-eq1.true)
    (rw (← c.at.ensures.of_kind, ← c.is_zero.ensures) c.if-is_zero.false)

pub returns : goal.returns
returns g c = several g.E.Entry.kind _ _ _ (ne_eqb _ _ c.if-n-eq1.false) c.passes.ensures
