-- `put_refusal` meets its contract.
use Rattle.night_totals.proofs.WrittenLaws.{line-put, many-put}
use Rattle.forecast_text.specs.Printed.{text}
use Rattle.night_totals.proofs.printed.put_refusal.Goals as goal

pub returns-in-Malformed : goal.returns-in-Malformed
unfolding text
returns-in-Malformed c = rw c.in-Malformed.is (rw (line-put _) at c.put_line.ensures)

pub returns-in-TooMany : goal.returns-in-TooMany
unfolding text
returns-in-TooMany c = rw c.in-TooMany.is (rw many-put at c.put.ensures)
