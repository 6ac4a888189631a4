-- `refuse_given` meets its contract.
use Rattle.opening.specs.Rows.{bad_number}
use Rattle.opening.proofs.RowLaws.{passed-by, no-test-left}
use mathlib.Core.Path.{refl}
use Rattle.opening.proofs.checks.refuse_given.Goals as goal

pub returns-in-None : goal.returns-in-None
unfolding bad_number
returns-in-None c = rw c.in-None.is (passed-by _ _ refl no-test-left)

pub returns-in-Some : goal.returns-in-Some
unfolding bad_number
returns-in-Some c = rw c.in-Some.is c.refuse_number.ensures
