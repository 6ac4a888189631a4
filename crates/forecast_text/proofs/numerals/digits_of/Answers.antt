-- `digits_of` meets its contract.
use Rattle.forecast_text.specs.Numerals.{last_digits}
use Rattle.forecast_text.proofs.PutLaws.{put-over}
use Rattle.forecast_text.proofs.numerals.digits_of.Goals as goal

pub returns : goal.returns
unfolding last_digits
returns c = rw (← c.clamp.ensures, ← c.min.ensures) (put-over c.put_digits.ensures)
