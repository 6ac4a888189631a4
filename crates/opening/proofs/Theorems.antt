-- What an opening promises, from its definition, which the contract of `open` says the code equals: what a user cites,
-- each theorem in words, its statement, and where it is proved. `FirstHolds`, `NoneHolds` and `FirstPlace` stand in
-- RowLaws.antt.
use mathlib.Core.Path.{◌≡◌}
use mathlib.Core.Bool.{Bool}
use mathlib.Core.List.{List}
use mathlib.Core.Logic.{◌↔◌}
use lib.Ieee.{Float}
use Rattle.state.specs.declared.talk.Refusal.{Refusal}
use Rattle.opening.specs.Rows.{Test, Opening, opening_rows, place_of, verdict_of}
use Rattle.opening.specs.Opening.{accepted_of, open_of}
use Rattle.opening.proofs.RowLaws.{FirstHolds, NoneHolds, FirstPlace, verdict-first-proof, place-first-proof}
use Rattle.opening.proofs.Verdicts.{refused-exactly-proof, accepted-exactly-proof, refused-kept-proof}
use Rattle.std.specs.Prelude.{Err}
use Rattle.state.specs.Talk.{passed_all}

-- An opening is refused with r exactly when a row of 01's table holds, refuses with r, and no earlier row holds.
pub refused-exactly : (o : Opening) (r : Refusal)
    → ((open_of o).answer ≡ Err r) ↔ FirstHolds (opening_rows o) r
refused-exactly = refused-exactly-proof

-- It is accepted exactly when no row holds.
pub accepted-exactly : (o : Opening) → (open_of o ≡ accepted_of o) ↔ NoneHolds (opening_rows o)
accepted-exactly = accepted-exactly-proof

-- A refusal leaves all lent memory as it was.
pub refused-kept : (o : Opening) (r : Refusal) → (open_of o).answer ≡ Err r → (open_of o).memory ≡ o.memory
refused-kept = refused-kept-proof

-- The verdict of any list of tests is the refusal of the first that holds, and passed exactly when none does.
pub verdict-first : (ts : List Test)
    → ((r : Refusal) → (verdict_of ts ≡ Err r) ↔ FirstHolds ts r)
    × ((verdict_of ts ≡ passed_all) ↔ NoneHolds ts)
verdict-first = verdict-first-proof

-- The place that a refusal tells is the first with a bad entry.
pub place-first : (bad : Float → Bool) (xs : List Float) → FirstPlace bad xs (place_of bad xs)
place-first = place-first-proof
