-- What each loop of `list_all` keeps.
use Prim.Native.Nat.{◌≤◌}
use lib.ListN.{length}
use Rattle.model.specs.Plan.{Listings}
use Rattle.model.proofs.planned.list_all.Given as goal

abbrev pub invariant-loop-s : goal.invariant-loop-s
invariant-loop-s l = (l.s ≤ l.n) × Listings l.s l.places (length l.places) l.starts l.terms
