-- `put_record_line` meets its contract.
use Rattle.forecast_text.proofs.PutLaws.{put-then}
use Rattle.csv_table.proofs.lines.put_record_line.Goals as goal

pub returns : goal.returns
returns c = put-then _ _ _ _ (put-then _ _ _ _ c.put_number.ensures c.put_amounts.ensures) c.put.ensures
