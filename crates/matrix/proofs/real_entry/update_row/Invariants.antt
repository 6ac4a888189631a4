-- What each loop of `update_row` keeps.
use Prim.Native.Nat.{◌+◌}
use mathlib.Core.Path.{◌≡◌}
use mathlib.Core.List.{List}
use lib.Ieee.{Float}
use Rattle.words.specs.Grid.{Square, at}
use Rattle.words.proofs.Loops.{Ran}
use Rattle.matrix.specs.Lu.{real}
use Rattle.matrix.specs.Reordered.{added_of, cell_at}
use Rattle.matrix.proofs.real_entry.update_row.Given as goal

abbrev pub invariant-loop-j : goal.invariant-loop-j
invariant-loop-j l = Ran (cell_at real added_of l.n l.k l.i)
    (λ (s : List Float). Square l.n s × (at s l.n l.i l.k ≡ l.x)) (l.k + 1) l.end l.j l.initial.a l.a
