-- `coefficient` meets its contract: the const table is the definitions' list.
use Rattle.scalar.proofs.TableLaws.{read-right}
use Rattle.scalar.proofs.coefficients.coefficient.Goals as goal

pub returns : goal.returns
returns c = rw c.copied.ensures (read-right c.args.k c.get.result c.get.ensures.lookup)
