-- `put_strides` meets its contract.
use Rattle.forecast_text.specs.Printed.{text}
use Rattle.forecast_text.proofs.PutLaws.{put-put}
use Rattle.forecast_text.proofs.lines.put_strides.Goals as goal

pub returns : goal.returns
unfolding text
returns c =
    simp (c.put-3.ensures, c.put_float-2.ensures, c.put-2.ensures, c.put_float.ensures, c.put.ensures, put-put)
