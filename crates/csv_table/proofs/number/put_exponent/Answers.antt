-- `put_exponent` meets its contract.
use Rattle.std.proofs.Common.{◌-◌, arith}
use borrow.Author.Tests.{lt-ltb, le-ltb}
use Rattle.words.proofs.Branch.{pick_yes, pick_no}
use Rattle.forecast_text.specs.Printed.{text}
use Rattle.forecast_text.proofs.DigitLaws.{decimal-numeral}
use Rattle.csv_table.specs.NumberText.{exponent_text}
use Rattle.csv_table.proofs.number.put_exponent.Goals as goal

pub returns-then-exponent-lt-BIAS : goal.returns-then-exponent-lt-BIAS
unfolding exponent_text text
returns-then-exponent-lt-BIAS c =
    rw (
      pick_yes _ _ (lt-ltb _ _ c.if-exponent-lt-BIAS.true),
      decimal-numeral (1023 - c.args.exponent) (omega arith),
    )
    c.put_named.ensures

pub returns-else-exponent-lt-BIAS : goal.returns-else-exponent-lt-BIAS
unfolding exponent_text text
returns-else-exponent-lt-BIAS c =
    rw (pick_no _ _ (le-ltb _ _ c.if-exponent-lt-BIAS.false), decimal-numeral (c.args.exponent - 1023) (omega arith))
    c.put_named-else-exponent-lt-BIAS.ensures
