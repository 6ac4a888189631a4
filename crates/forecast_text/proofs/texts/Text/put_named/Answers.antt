-- `put_named` meets its contract.
use Rattle.std.proofs.Common.{arith}
use Rattle.forecast_text.proofs.DigitLaws.{numeral-lowest}
use Rattle.forecast_text.proofs.texts.Text.put_named.Goals as goal

pub returns : goal.returns
returns g c = rw (numeral-lowest c.args.value c.decimal_width.result (omega arith) c.decimal_width.ensures.value)
    at c.put_lowest.ensures
