-- What each loop of `react_all` keeps.
use Prim.Native.Nat.{◌≤◌}
use mathlib.Core.Path.{◌≡◌}
use lib.ListN.{length}
use Rattle.model.specs.Model.{all_reacted}
use Rattle.model.specs.Derivative.{reactions_of}
use Rattle.model.proofs.reactions.react_all.Given as goal

abbrev pub invariant-loop-i : goal.invariant-loop-i
invariant-loop-i l = (l.i ≤ l.reactions) × (length l.dy ≡ length l.y)
    × (l.dy ≡ all_reacted l.y (reactions_of l.rates l.species l.i) l.initial.dy)
