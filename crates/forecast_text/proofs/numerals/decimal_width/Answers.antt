-- `decimal_width` meets its contract.
use Rattle.forecast_text.proofs.DigitLaws.{width-log, width-none}
use Rattle.forecast_text.proofs.numerals.decimal_width.Goals as goal

pub returns-then-value-eq0-clause-value : goal.returns-then-value-eq0-clause-value
returns-then-value-eq0-clause-value c = width-none _ c.if-value-eq0.true

pub returns-else-value-eq0-clause-value : goal.returns-else-value-eq0-clause-value
returns-else-value-eq0-clause-value c =
    let log = c.ilog10.ensures in width-log _ _ log.bound log.power_le log.next_power_gt
