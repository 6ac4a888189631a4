-- What is put into lent memory of a sheet: the bytes that are printed of its forecast, over the first that stood there.
use Rattle.std.specs.Prelude.{ℕ, ◌≡◌, List, length}
use Rattle.sheet.specs.Reader.{Read, over}
use Rattle.forecast_text.specs.Printed.{Forecast, printed_of}
use Rattle.forecast.specs.Forecast.{Forecasts}

-- of what was read, with the memory before and after, and how many bytes were put
pub record Prints (read : Read) (before after : List ℕ) (count : ℕ) : Type 0 where
  pub forecast : Forecast
  pub is : Forecasts read forecast
  pub bytes : after ≡ over (printed_of forecast) before
  pub counted : count ≡ length (printed_of forecast)
