-- What is promised of a printed forecast for C, beside its contract: what a user cites, in words, as a statement, and
-- where it is proved.
use Prim.Native.Nat.{ℕ}
use mathlib.Core.Path.{◌≡◌}
use mathlib.Core.List.{List}
use Rattle.sheet.specs.Reader.{Read}
use Rattle.export_forecast.specs.Printout.{Prints}
use Rattle.export_forecast.proofs.Printouts.{one-printout-proof}

-- Two outcomes that the contract allows for the same bytes in the same memory coincide.
pub one-printout : (x : Read) (before : List ℕ) {left right : List ℕ} {k m : ℕ}
    → Prints x before left k → Prints x before right m → (left ≡ right) × (k ≡ m)
one-printout x before = one-printout-proof x before
