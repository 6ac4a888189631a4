-- Each contract settles its call: it asks nothing, and two outcomes that it allows for one input are the same answer
-- and the same memory.
use Prim.Native.Nat.{ℕ}
use mathlib.Core.Path.{refl}
use mathlib.Core.List.{List}
use Rattle.words.specs.Contract.{Settles}
use Rattle.words.proofs.OneOutcome.{◌▹◌, two-parts}
use Rattle.export_forecast.proofs.Theorems.{one-printout}
use Rattle.export_forecast.proofs.sheets.elchepur_forecast as forecast

pub elchepur-forecast-once : Settles forecast.Kinds.ps forecast.Kinds.r forecast.Reads.Asked forecast.Reads.Post
elchepur-forecast-once κs a =
    (tt, λ o p. λ e f. two-parts (λ (out : List ℕ) (r : ℕ). r ▹ tt ▹ out ▹ tt) (one-printout _ _ e f) (refl, refl))
