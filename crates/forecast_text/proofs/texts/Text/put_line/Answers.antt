-- `put_line` meets its contract.
use Rattle.forecast_text.specs.Printed.{text}
use Rattle.forecast_text.proofs.PutLaws.{put-put}
use Rattle.forecast_text.proofs.texts.Text.put_line.Goals as goal

pub returns : goal.returns
unfolding text
returns g c = simp (c.put.ensures, c.put_named.ensures, put-put)
