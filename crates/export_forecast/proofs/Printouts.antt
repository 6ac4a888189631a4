-- What is put of a sheet is settled:
--     one-printout-proof   two outcomes that the contract allows for the same bytes in the same memory coincide
use Prim.Native.Nat.{ℕ}
use mathlib.Core.Path.{◌≡◌, sym, ap, ◌∙◌}
use mathlib.Core.List.{List}
use lib.ListN.{length}
use Rattle.sheet.specs.Reader.{Read, over}
use Rattle.forecast_text.specs.Printed.{Forecast, printed_of}
use Rattle.forecast.proofs.Theorems.{one-forecast}
use Rattle.export_forecast.specs.Printout.{Prints}

pub one-printout-proof : (x : Read) (before : List ℕ) {left right : List ℕ} {k m : ℕ}
    → Prints x before left k → Prints x before right m → (left ≡ right) × (k ≡ m)
one-printout-proof x before a b =
    let same = one-forecast x a.forecast b.forecast a.is b.is in (
      a.bytes ∙ ap (λ (f : Forecast). over (printed_of f) before) same ∙ sym b.bytes,
      a.counted ∙ ap (λ (f : Forecast). length (printed_of f)) same ∙ sym b.counted,
    )
