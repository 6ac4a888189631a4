-- `room` meets its contract: the code's branch is the definition's.
use mathlib.Core.Path.{refl}
use native.Mathlib.Omega.{arith}
use lib.Dec.{leb}
use borrow.Author.Tests.{le-leb, lt-leb}
use Rattle.words.proofs.Branch.{yes, no}
use Rattle.model_run.proofs.run.room.Goals as goal

pub returns-then-n-le32 : goal.returns-then-n-le32
returns-then-n-le32 c = (
  c.if-n-le32.true,
  yes (leb c.args.n 32) c.args.n 32 (le-leb c.args.n 32 c.if-n-le32.true) refl,
)

pub returns-else-n-le32 : goal.returns-else-n-le32
returns-else-n-le32 c = (
  omega arith,
  no (leb c.args.n 32) c.args.n 32 (lt-leb c.args.n 32 c.if-n-le32.false) refl,
)
