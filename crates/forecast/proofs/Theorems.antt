-- What is promised of a forecast: what a user cites, each theorem in words, its statement, and where it is proved.
-- `Forecasts` stands in specs/Forecast.antt, `Accounts` in specs/Account.antt, `Raised` in
-- specs/Raised.antt.
use Prim.Native.Nat.{ℕ}
use mathlib.Core.Bool.{false}
use mathlib.Core.Path.{◌≡◌}
use mathlib.Core.List.{List}
use lib.Ieee.{Float}
use Rattle.sheet.specs.Sheet.{written}
use Rattle.sheet.specs.Reader.{Read, read_of}
use Rattle.forecast_text.specs.declared.ending.Reached.{Reached}
use Rattle.forecast_text.specs.Printed.{Forecast}
use Rattle.model_run.specs.Budget.{run_of}
use Rattle.model_run.specs.declared.run.Task.{Task}
use Rattle.forecast.specs.Forecast.{Forecasts}
use Rattle.forecast.specs.Told.{Ends}
use Rattle.forecast.specs.Account.{Accounts}
use Rattle.forecast.specs.Raised.{ends_over, Raised, SameForecast}
use Rattle.forecast.proofs.BudgetLasts.{run-ends-proof}
use Rattle.forecast.proofs.Solves.{one-forecast-proof}
use Rattle.forecast.proofs.Accounts.{tells, forecast-accounts-proof}
use Rattle.forecast.proofs.Raised.{raised-forecast-proof}
use Rattle.forecast.proofs.Samples.{still, still_forecast, still-forecast-proof}

-- Of what was read there is one forecast only.
pub one-forecast : (x : Read) (f g : Forecast) → Forecasts x f → Forecasts x g → f ≡ g
one-forecast = one-forecast-proof

-- The run with a budget always comes to its end: no accepted opening leads to as many requests as the budget has.
pub run_ends : (t : Task) (rates : List Float) (species : List ℕ) → Ends (run_of t rates species).finish
run_ends = run-ends-proof

-- A forecast that tells an end is accounted for: `solve` in one piece returns with it, and a journal of the run gives
-- its counts and its status.
pub forecast-accounts : (bytes : List ℕ) (e : Reached) → Forecasts (read_of bytes) (tells e) → Accounts bytes e
forecast-accounts = forecast-accounts-proof

-- A sheet with a larger limit of steps has the same forecast, byte for byte, unless the first ended with 2.
pub raised-forecast : (sheet raised : List ℕ) → Raised sheet raised → (f : Forecast) → Forecasts (read_of sheet) f
    → ends_over f ≡ false → SameForecast raised f
raised-forecast = raised-forecast-proof

-- There is a forecast that tells an end: that of a sheet with one species and no reaction, which ends with 3.
pub still-forecast : Forecasts (read_of (written still)) still_forecast
still-forecast = still-forecast-proof
