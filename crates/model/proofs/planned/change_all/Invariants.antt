-- What each loop of `change_all` keeps.
use Prim.Native.Nat.{◌≤◌}
use mathlib.Core.Path.{◌≡◌}
use lib.ListN.{length}
use Rattle.model.specs.Plan.{Changes}
use Rattle.model.proofs.planned.change_all.Given as goal

abbrev pub invariant-loop-i : goal.invariant-loop-i
invariant-loop-i l = (l.i ≤ l.reactions) × (length l.changes ≡ 128) × Changes l.i l.y l.rates l.species l.changes
