-- The test of pivots that this port adds (01, number 18), for a solve's pivots and for those in lent memory.
use Rattle.std.specs.Prelude.{ℕ, ◌-◌, Bool, false, ◌||◌, List, leb, get_or}
use Rattle.words.specs.Loop.{loop}

-- whether one of the first n - 1 pivots is n or more, so that it is no row; a pivot past the list's end
-- counts as 0, which is a row
unfoldable pub stray_at : ℕ → List ℕ → ℕ → Bool → Bool
stray_at n ip k found = found || leb n (get_or ip k 0)

unfoldable pub stray : ℕ → List ℕ → Bool
stray n ip = loop (stray_at n ip) 0 (n - 1) false
