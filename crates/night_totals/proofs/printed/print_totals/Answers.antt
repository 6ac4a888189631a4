-- `print_totals` meets its contract: the text has room for all of it.
use Rattle.std.proofs.Common.{◌∙◌, Ok, arith}
use Rattle.forecast_text.specs.Printed.{text}
use Rattle.forecast_text.proofs.PutLaws.{put-whole}
use Rattle.night_totals.specs.Printed.{printed_of}
use Rattle.night_totals.proofs.WrittenLaws.{totals-few}
use Rattle.night_totals.proofs.printed.print_totals.Goals as goal

pub returns : goal.returns
unfolding printed_of text
returns c =
    let t = c.args.totals in
    let all = (rw (c.new-text.ensures, c.into.ensures) at c.put_form.ensures)
    ∙ put-whole 423 (printed_of (Ok t)) (totals-few t) in
    let long = rw all at c.len.ensures.value in
    record { out_after = rw all at c.copy_over.ensures; value = (long, omega arith) }
