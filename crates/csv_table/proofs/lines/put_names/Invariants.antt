-- What each loop of `put_names` keeps.
use mathlib.Core.Path.{◌≡◌}
use Rattle.forecast_text.specs.Put.{put}
use Rattle.csv_table.specs.Table.{names_text}
use Rattle.csv_table.proofs.lines.put_names.Given as goal

abbrev pub invariant-loop-k : goal.invariant-loop-k
invariant-loop-k l = l.text ≡ put 1024 l.initial.text (names_text l.k)
