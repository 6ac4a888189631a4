-- `print_refusal` meets its contract.
use Rattle.std.proofs.Common.{arith}
use Rattle.forecast_text.specs.Printed.{text}
use Rattle.forecast_text.proofs.PutLaws.{put-whole}
use Rattle.night_chain.specs.Printed.{refusal_text}
use Rattle.night_chain.proofs.printed.print_refusal.Goals as goal

pub returns-in-Unfit : goal.returns-in-Unfit
unfolding refusal_text text
returns-in-Unfit c =
    let whole = rw c.new-text.ensures at c.put.ensures in
    let shown = rw (whole, put-whole 11 (text "refused 28\n") (omega arith)) at c.copy_over.ensures in
    let long = rw (whole, put-whole 11 (text "refused 28\n") (omega arith)) at c.len.ensures.value in
    rw c.in-Unfit.is (record { out_after = shown; value = (long, omega arith) })

pub returns-in-TooMany : goal.returns-in-TooMany
unfolding refusal_text
returns-in-TooMany c =
    rw c.in-TooMany.is (record { out_after = c.print.ensures.out_after; value = c.print.ensures.value })
