-- `one_by_one` meets its contract.
use Rattle.std.proofs.Common.{arith}
use Rattle.export_totals.proofs.RecordLaws.{values-back}
use Rattle.export_totals.proofs.record.one_by_one.Goals as goal

pub returns : goal.returns
returns c = values-back c.args.values (omega arith)
