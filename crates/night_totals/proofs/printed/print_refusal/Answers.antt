-- `print_refusal` meets its contract: the text has room for all of it.
use Rattle.std.proofs.Common.{◌∙◌, Err, arith}
use Rattle.forecast_text.proofs.PutLaws.{put-whole}
use Rattle.night_totals.specs.Printed.{printed_of}
use Rattle.night_totals.proofs.WrittenLaws.{refusal-few}
use Rattle.night_totals.proofs.printed.print_refusal.Goals as goal

pub returns : goal.returns
returns c =
    let e = c.args.refused in
    let all = (rw c.new-text.ensures at c.put_refusal.ensures)
    ∙ put-whole 32 (printed_of (Err e)) (refusal-few e) in
    let long = rw all at c.len.ensures.value in
    record { out_after = rw all at c.copy_over.ensures; value = (long, omega arith) }
