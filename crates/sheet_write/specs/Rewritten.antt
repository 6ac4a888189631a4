-- What is printed of a sheet that is rewritten: the sheet of the model that was read, or `refused` and the number, with
-- the line after 20, as `decay` prints it.
use Rattle.std.specs.Prelude.{ℕ, Ok, Err, List, ◌++◌}
use Rattle.sheet.specs.Sheet.{written}
use Rattle.sheet.specs.Reader.{Read, accepted, malformed, too_long}
use Rattle.forecast_text.specs.Printed.{text, numeral_of}
use Rattle.sheet_write.specs.Writer.{Writing}

unfoldable pub rewritten_of : Read → List ℕ
rewritten_of (accepted m) = written m
rewritten_of (malformed k) = text "refused 20 " ++ numeral_of k ++ text "\n"
rewritten_of too_long = text "refused 21\n"

-- how many bytes were written
unfoldable pub count_for : Writing → ℕ
count_for (Ok n) = n
count_for (Err refused) = 0
