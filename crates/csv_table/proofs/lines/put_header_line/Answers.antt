-- `put_header_line` meets its contract.
use Rattle.forecast_text.specs.Printed.{text}
use Rattle.forecast_text.proofs.PutLaws.{put-then}
use Rattle.csv_table.proofs.lines.put_header_line.Goals as goal

pub returns : goal.returns
unfolding text
returns c = put-then _ _ _ _ (put-then _ _ _ _ c.put.ensures c.put_names.ensures) c.put-2.ensures
