-- `put_amounts` meets its contract.
use Rattle.std.proofs.Common.{sym, arith}
use Rattle.forecast_text.specs.Printed.{text}
use Rattle.forecast_text.proofs.PutLaws.{put-nothing, put-then}
use Rattle.csv_table.specs.Table.{amounts_text}
use Rattle.csv_table.proofs.LineLaws.{amounts-more}
use Rattle.csv_table.proofs.lines.put_amounts.Goals as goal

pub loop-amount-init : goal.loop-amount-init
unfolding amounts_text
loop-amount-init c = sym (put-nothing 1024 _)

pub loop-amount-preserved : goal.loop-amount-preserved
unfolding text
loop-amount-preserved c =
    rw (amounts-more c.args.amounts.now c.loop-amount.amount-index (omega arith))
    (put-then _ _ _ _ c.loop-amount.invariant (put-then _ _ _ _ c.put.ensures c.put_number.ensures))
