-- `put_hex` meets its contract: sixteen hexadecimal digits spell every number.
use Rattle.std.proofs.Common.{arith}
use Rattle.forecast_text.proofs.DigitLaws.{hex-lowest}
use Rattle.forecast_text.proofs.texts.Text.put_hex.Goals as goal

pub returns : goal.returns
returns g c = rw (hex-lowest c.args.value (omega arith)) at c.put_lowest.ensures
