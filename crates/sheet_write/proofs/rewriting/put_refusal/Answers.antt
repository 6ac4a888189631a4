-- `put_refusal` meets its contract.
use Rattle.std.proofs.Common.{ℕ, Err}
use native.Mathlib.Omega.{arith}
use lib.ListN.{length-replicate}
use Rattle.forecast_text.specs.Unread.{unread}
use Rattle.forecast_text.specs.Printed.{printed_of}
use Rattle.sheet_write.proofs.RewriteLaws.{line-copied}
use Rattle.sheet_write.proofs.rewriting.put_refusal.Goals as goal

pub returns-clause-out_after : goal.returns-clause-out_after
returns-clause-out_after c =
    let text = rw c.into.ensures at c.print-count.ensures.out_after in
    let count = rw c.into.ensures at c.print-count.ensures.value.0 in
    let few = c.print-count.ensures.value.1 in
    rw c.copy_from_slice.ensures.after
    (line-copied (printed_of (Err (unread c.args.error))) _ c.args.out.now text count
    (omega (arith, count, few, length-replicate {A = ℕ} 1024 0)) (omega (arith, count, few)))
