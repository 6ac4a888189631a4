-- `put_digits` meets its contract.
use Rattle.forecast_text.specs.Numerals.{last_digits}
use Rattle.forecast_text.proofs.texts.Text.put_digits.Goals as goal

pub returns : goal.returns
unfolding last_digits
returns g c = rw (c.clamp.ensures, c.min.ensures) at c.put_lowest.ensures
