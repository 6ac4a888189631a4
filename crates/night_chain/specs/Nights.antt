-- The totals of several nights, each of its own lines.
use Rattle.std.specs.Prelude.{◌≤◌, List, [], ◌∷◌, ◌++◌, length}
use Rattle.night_totals.specs.Entries.{AllFit, most_lines}
use Rattle.night_totals.specs.Totals.{totals_of}
use Rattle.night_totals.specs.declared.entry.Entry.{Entry}
use Rattle.night_totals.specs.declared.totals.Totals.{Totals}

-- lines that `totals` reads, night by night
pub data AllNights : List (List Entry) → Type 0 where
  no_night : AllNights []
  and_night : {es : List Entry} {nights : List (List Entry)} → AllFit es → length es ≤ most_lines → AllNights nights
      → AllNights (es ∷ nights)

-- all lines, one after another
unfoldable pub lines_in : List (List Entry) → List Entry
lines_in [] = []
lines_in (es ∷ nights) = es ++ lines_in nights

unfoldable pub totals_in : List (List Entry) → List Totals
totals_in [] = []
totals_in (es ∷ nights) = totals_of es ∷ totals_in nights
