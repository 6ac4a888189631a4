-- `put_number` meets its contract: what equals itself is put by its bits.
use Rattle.std.proofs.Common.{◌≡◌, ◌∙◌}
use lib.Ieee.{binary64, to_bits}
use Rattle.words.proofs.Branch.{pick_yes, pick_no}
use Rattle.forecast_text.specs.Printed.{text}
use Rattle.forecast_text.proofs.PutLaws.{put-then}
use Rattle.csv_table.proofs.number.put_number.Goals as goal

pub returns-then-x : goal.returns-then-x
unfolding text
returns-then-x c = rw (pick_yes _ _ c.if-x.true) c.put.ensures

pub returns : goal.returns
returns c =
    let x = c.args.x in
    let is : c.pattern-bits.result ≡ to_bits binary64 x = c.pattern-bits.ensures ∙ pick_no _ _ c.if-x.false in
    rw (pick_no _ _ c.if-x.false, ← is) (put-then _ _ _ _ c.put_sign.ensures c.put_magnitude.ensures)
