-- `print` meets its contract.
use Rattle.night_chain.specs.Printed.{answer_text}
use Rattle.night_chain.proofs.ChainLaws.{error_is}
use Rattle.night_chain.proofs.printed.print.Goals as goal

pub returns-in-Ok : goal.returns-in-Ok
unfolding answer_text
returns-in-Ok c = rw c.in-Ok.is (record { out_after = c.print.ensures.out_after; value = c.print.ensures.value })

pub returns-in-Err-Malformed : goal.returns-in-Err-Malformed
unfolding answer_text
returns-in-Err-Malformed c =
    rw (error_is c.in-Err-Malformed.is (rw c.in-Err-Malformed.is at c.in-Err-Malformed.field-0-is))
    (record { out_after = c.print-in-Err-Malformed.ensures.out_after; value = c.print-in-Err-Malformed.ensures.value })

pub returns-in-Err-Join : goal.returns-in-Err-Join
unfolding answer_text
returns-in-Err-Join c =
    rw (error_is c.in-Err-Join.is (rw c.in-Err-Join.is at c.in-Err-Join.field-0-is))
    (record { out_after = c.print_refusal.ensures.out_after; value = c.print_refusal.ensures.value })
