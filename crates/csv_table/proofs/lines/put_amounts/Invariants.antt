-- What each loop of `put_amounts` keeps.
use mathlib.Core.Path.{◌≡◌}
use lib.ListN.{take}
use Rattle.forecast_text.specs.Put.{put}
use Rattle.csv_table.specs.Table.{amounts_text}
use Rattle.csv_table.proofs.lines.put_amounts.Given as goal

abbrev pub invariant-loop-amount : goal.invariant-loop-amount
invariant-loop-amount l = l.text ≡ put 1024 l.initial.text (amounts_text (take l.amount-index l.amounts))
