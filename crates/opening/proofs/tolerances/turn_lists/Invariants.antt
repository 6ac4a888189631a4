-- What each loop of `turn_lists` keeps.
use mathlib.Core.Path.{◌≡◌}
use lib.ListN.{length}
use Rattle.words.proofs.Loops.{Ran}
use Rattle.opening.specs.Tolerances.{Columns, columns, list_turn_at}
use Rattle.opening.proofs.tolerances.turn_lists.Given as goal

-- what the turns keep: both lengths
pub record Kept (s t : Columns) : Type 0 where
  pub rtols : length t.rtols ≡ length s.rtols
  pub atols : length t.atols ≡ length s.atols

abbrev pub invariant-loop-i : goal.invariant-loop-i
invariant-loop-i l =
    let start = columns l.initial.rtol l.initial.atol in
    Ran list_turn_at (Kept start) 0 l.n l.i start (columns l.rtol l.atol)
