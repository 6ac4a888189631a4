-- `put_names` meets its contract.
use Rattle.std.proofs.Common.{sym, ◌+◌, arith}
use Rattle.forecast_text.specs.Printed.{text}
use Rattle.forecast_text.proofs.DigitLaws.{decimal-numeral}
use Rattle.forecast_text.proofs.PutLaws.{put-nothing, put-then}
use Rattle.csv_table.specs.Table.{names_text}
use Rattle.csv_table.proofs.LineLaws.{names_more}
use Rattle.csv_table.proofs.lines.put_names.Goals as goal

pub loop-k-init : goal.loop-k-init
unfolding names_text
loop-k-init c = sym (put-nothing 1024 _)

pub loop-k-preserved : goal.loop-k-preserved
unfolding text
loop-k-preserved c =
    rw (names_more c.loop-k.k, decimal-numeral (c.loop-k.k + 1) (omega arith))
    (put-then _ _ _ _ c.loop-k.invariant c.put_named.ensures)
