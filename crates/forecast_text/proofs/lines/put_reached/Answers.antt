-- `put_reached` meets its contract.
use Rattle.std.proofs.Common.{arith}
use Rattle.forecast_text.specs.Printed.{text}
use Rattle.forecast_text.proofs.PutLaws.{put-then}
use Rattle.forecast_text.proofs.LineLaws.{put-named, few-taken}
use Rattle.forecast_text.proofs.lines.put_reached.Goals as goal

pub returns : goal.returns
unfolding text
returns c =
    let to-x = put-then _ _ _ _ (put-then _ _ _ _ c.put_status.ensures c.put.ensures) c.put_float.ensures in
    let to-y = put-named _ _ _ (text "\n") (text "y") to-x c.put-2.ensures in
    let ys = c.args.reached.amounts in
    let amounts = rw (few-taken c.args.reached.species c.min.result ys (omega arith) c.min.ensures)
    at c.put_amounts.ensures in
    put-then _ _ _ _ (put-then _ _ _ _ (put-then _ _ _ _ to-y amounts) c.put-3.ensures) c.put_strides.ensures
