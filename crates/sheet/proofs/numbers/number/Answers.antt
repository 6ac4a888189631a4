-- `number` meets its contract.
use Rattle.sheet.proofs.NumbersLaws.{base-small}
use Rattle.sheet.proofs.numbers.number.Goals as goal

pub spelled-requires : goal.spelled-requires
spelled-requires c = (c.if-text-gt16.false, rw c.base.ensures (base-small c.args.kind.notation))
