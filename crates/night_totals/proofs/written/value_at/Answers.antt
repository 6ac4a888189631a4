-- `value_at` meets its contract.
use Rattle.std.proofs.Common.{sym, arith}
use lib.ListN.{get_or-eq_default}
use Rattle.night_totals.proofs.written.value_at.Goals as goal

pub returns-else-place-lt16 : goal.returns-else-place-lt16
returns-else-place-lt16 c = sym (get_or-eq_default c.args.values 0 (omega arith))
