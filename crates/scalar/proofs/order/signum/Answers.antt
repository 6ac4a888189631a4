-- `signum` meets its contract.
use Rattle.std.proofs.Common.{◌∙◌}
use Rattle.scalar.proofs.OrderLaws.{signum-is}
use Rattle.scalar.proofs.order.signum.Goals as goal

pub returns : goal.returns
returns c = c.signum.ensures ∙ signum-is _
