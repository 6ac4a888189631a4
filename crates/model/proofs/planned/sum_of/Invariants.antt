-- What the loop of `sum_of` keeps.
use Rattle.std.proofs.Common.{length}
use Rattle.words.specs.Constants.{«0·0»}
use Rattle.words.proofs.Loops.{Ran, Any}
use Rattle.model.specs.Plan.{term_at}
use Rattle.model.proofs.planned.sum_of.Given as goal

abbrev pub invariant-loop-k : goal.invariant-loop-k
invariant-loop-k l = Ran (term_at l.terms l.changes) Any 0 (length l.terms) l.k-index «0·0» l.sum
