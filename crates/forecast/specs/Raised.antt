-- Two sheets that differ in max_steps alone, the second's being larger, and what it is that the forecast doesn't move.
use Rattle.std.specs.Prelude.{ℕ, ◌≤◌, Bool, false, ◌≡◌, List, Ok, Err}
use Rattle.limit.specs.Limit.{Raises, is_over}
use Rattle.sheet.specs.Sheet.{Model}
use Rattle.sheet.specs.Reader.{accepted, read_of}
use Rattle.forecast_text.specs.Printed.{Forecast, printed_of}
use Rattle.forecast.specs.Forecast.{Forecasts}

-- the same model with the limit M
abbrev pub model_with : ℕ → Model → Model
model_with M m =
    record {
      x0 = m.x0;
      xend = m.xend;
      rtol = m.rtol;
      atol = m.atol;
      max_steps = M;
      rule = m.rule;
      amounts = m.amounts;
      reactions = m.reactions;
    }

-- both limits are such as opening takes
pub record Raised (sheet raised : List ℕ) : Type 0 where
  pub model : Model
  pub limit : ℕ
  pub holds : read_of sheet ≡ accepted model
  pub then-holds : read_of raised ≡ accepted (model_with limit model)
  pub least : 1 ≤ model.max_steps
  pub raises : Raises model.max_steps limit

-- whether the end that is told has status 2; a refusal tells none
abbrev pub ends_over : Forecast → Bool
ends_over (Ok e) = is_over e.result.status
ends_over (Err x) = false

-- f is the forecast of the bytes, and what is printed of any forecast of theirs is what is printed of f
pub record SameForecast (bytes : List ℕ) (f : Forecast) : Type 0 where
  pub forecasts : Forecasts (read_of bytes) f
  pub prints : (g : Forecast) → Forecasts (read_of bytes) g → printed_of g ≡ printed_of f
