-- `put_settings` meets its contract.
use native.Mathlib.Omega.{arith}
use Rattle.export_sheet.proofs.BorderLaws.{over-all}
use Rattle.export_sheet.specs.Border.{setting_words}
use Rattle.export_sheet.proofs.heading.put_settings.Goals as goal

pub returns : goal.returns
returns c = rw c.rule_number.ensures (over-all (setting_words c.args.heading) c.args.settings.now (omega arith))
