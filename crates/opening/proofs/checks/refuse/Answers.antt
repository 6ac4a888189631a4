-- `refuse` meets its contract.
use Rattle.opening.proofs.RowLaws.{refused-by, passed-by, no-test-left}
use Rattle.opening.proofs.checks.refuse.Goals as goal

pub returns-then-holds : goal.returns-then-holds
returns-then-holds c = refused-by _ _ c.if-holds.true

pub returns : goal.returns
returns c = passed-by _ _ c.if-holds.false no-test-left
