-- What each loop of `list_reactions` keeps.
use Prim.Native.Nat.{◌*◌, ◌≤◌}
use mathlib.Core.Path.{◌≡◌}
use lib.ListN.{length, take}
use Rattle.sheet_write.specs.Memory.{listed_in}
use Rattle.sheet_write.proofs.listing.list_reactions.Given as goal

abbrev pub invariant-loop-i : goal.invariant-loop-i
invariant-loop-i l = (l.i ≤ l.n) × (length l.listed ≡ 320) × (take (l.i * 5) l.listed ≡ listed_in l.i l.rates l.species)
