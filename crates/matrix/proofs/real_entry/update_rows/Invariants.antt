-- What each loop of `update_rows` keeps.
use Prim.Native.Nat.{◌+◌}
use mathlib.Core.List.{List}
use lib.Ieee.{Float}
use Rattle.words.specs.Grid.{Square}
use Rattle.words.proofs.Loops.{Ran}
use Rattle.matrix.specs.Lu.{real}
use Rattle.matrix.specs.Reordered.{IdleFrom, added_of, row_at}
use Rattle.matrix.proofs.real_entry.update_rows.Given as goal

abbrev pub invariant-loop-i : goal.invariant-loop-i
invariant-loop-i l = Ran (row_at real added_of l.n l.k) (λ (s : List Float). Square l.n s × IdleFrom real added_of l.n
    l.k l.end s) (l.k + 1) l.n l.i l.initial.a l.a
