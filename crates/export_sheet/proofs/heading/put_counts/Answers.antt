-- `put_counts` meets its contract.
use native.Mathlib.Omega.{arith}
use Rattle.export_sheet.proofs.BorderLaws.{over-all}
use Rattle.export_sheet.specs.Border.{count_words}
use Rattle.export_sheet.proofs.heading.put_counts.Goals as goal

pub returns : goal.returns
returns c = over-all (count_words c.args.heading) c.args.counts.now (omega arith)
