-- Two wrong forecasters, each shut out by the contract of `forecast` (01, 'How tight the contracts are'): one that
-- refuses every sheet, and one that tells status 0 however the run ended. Both are caught at the sheet of
-- Samples.antt, whose run ends with 3.
use Prim.Native.Nat.{ℕ}
use mathlib.Core.Bool.{true, true≢false}
use mathlib.Core.Path.{◌≡◌, sym, ap, ◌∙◌}
use mathlib.Core.List.{List}
use native.Mathlib.Omega.{arith}
use Rattle.state.specs.declared.run.Status.TheVariants.{Success}
use Rattle.sheet.specs.Sheet.{written}
use Rattle.sheet.specs.Reader.{read_of}
use Rattle.std.specs.Prelude.{Ok}
use Rattle.forecast_text.specs.declared.ending.Reached.{Reached}
use Rattle.forecast_text.specs.Printed.{Forecast}
use Rattle.forecast.specs.Forecast.{Forecasts}
use Rattle.forecast.proofs.Accounts.{refuses}
use Rattle.forecast.proofs.Samples.{still, still_forecast}
use Rattle.forecast.proofs.Theorems.{one-forecast, still-forecast}

-- what a forecaster is, and what the contract asks of it
abbrev pub Forecaster : Type 0
Forecaster = List ℕ → Forecast

abbrev pub Meets : Forecaster → Type 0
Meets s = (bytes : List ℕ) → Forecasts (read_of bytes) (s bytes)

-- of the sample there is one forecast
has-to : (s : Forecaster) → Meets s → s (written still) ≡ still_forecast
has-to s meets =
    one-forecast (read_of (written still)) (s (written still)) still_forecast (meets (written still)) still-forecast

-- refuses every sheet
abbrev pub RefusesAll : Forecaster → Type 0
RefusesAll s = (bytes : List ℕ) → refuses (s bytes) ≡ true

pub not-refuses-all : (s : Forecaster) → RefusesAll s → Meets s → ⊥
not-refuses-all s all meets =
    true≢false (sym (all (written still)) ∙ ap refuses (has-to s meets))

-- tells status 0 wherever it tells an end
abbrev pub TellsSuccess : Forecaster → Type 0
TellsSuccess s = (bytes : List ℕ) (e : Reached) → s bytes ≡ Ok e → e.result.status ≡ Success

pub not-tells-success : (s : Forecaster) → TellsSuccess s → Meets s → ⊥
not-tells-success s tells meets =
    let told = tells (written still) _ (has-to s meets) in
    let z : ◌≡◌ {A = ℕ} 0 1 = cc in
    omega arith
