-- What each loop of `trim` keeps.
use Rattle.csv_table.proofs.TrimLaws.{Trimming}
use Rattle.csv_table.proofs.number.trim.Given as goal

abbrev pub invariant-loop-value : goal.invariant-loop-value
invariant-loop-value l = Trimming l.fraction l.width l.value

abbrev pub decreases-loop-value : goal.decreases-loop-value
decreases-loop-value l = l.value
