-- What each loop of `copy` keeps.
use Prim.Native.Nat.{◌≤◌}
use mathlib.Core.Path.{◌≡◌}
use lib.ListN.{length}
use lib.Seq.{paste}
use Rattle.shelf.proofs.placing.copy.Given as goal

abbrev pub invariant-loop-i : goal.invariant-loop-i
invariant-loop-i l = (l.i ≤ length l.cont) × (length l.coefficients ≡ length l.initial.coefficients)
    × (l.coefficients ≡ paste l.initial.coefficients l.start l.cont l.i)
