-- A sheet that can't be read has no run, for the reason for which it can't be read.
use Rattle.sheet.specs.declared.sheet.SheetError.{SheetError}
use Rattle.sheet.specs.declared.sheet.SheetError.TheVariants as sheet
use Rattle.forecast_text.specs.declared.ending.ForecastError.{ForecastError}
use Rattle.forecast_text.specs.declared.ending.ForecastError.TheVariants.{Malformed, TooLong}

abbrev pub unread : SheetError → ForecastError
unread (sheet.Malformed k) = Malformed k
unread sheet.TooLong = TooLong
