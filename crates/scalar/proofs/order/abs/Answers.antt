-- `abs` meets its contract.
use Rattle.std.proofs.Common.{◌∙◌}
use Rattle.scalar.proofs.OrderLaws.{abs-is}
use Rattle.scalar.proofs.order.abs.Goals as goal

pub returns : goal.returns
returns c = c.abs.ensures.value ∙ abs-is _
