-- What a whole text comes to (02, [12]), from its lines alone. `written`, `line_of` and `Fit` say what lines are read,
-- `totals_of` what their totals are; nothing here says how a text is taken.
use Rattle.std.specs.Prelude.{◌≡◌, ℕ, suc, ◌<◌, ◌≤◌, List, ◌++◌, length, ◌≢◌, Result, Ok, Err}
use Rattle.night_totals.specs.Entries.{line_of, written, Fit, AllFit, most_lines}
use Rattle.night_totals.specs.Totals.{totals_of}
use Rattle.night_totals.specs.declared.entry.Entry.{Entry}
use Rattle.night_totals.specs.declared.totals.Totals.{Totals}
use Rattle.night_totals.specs.declared.night.NightError.{NightError}
use Rattle.night_totals.specs.declared.night.NightError.TheVariants as night_error

pub data Reads (s : List ℕ) : Result Totals NightError → Type 0 where
  -- no more than 65,535 lines and nothing else: their totals
  totals : (es : List Entry) → s ≡ written es → AllFit es → length es ≤ most_lines
      → Reads s (Ok (totals_of es))
  -- behind fewer lines something that begins with no line: the number of the line that it would be
  malformed : (es : List Entry) (rest : List ℕ) → s ≡ written es ++ rest → AllFit es → length es < most_lines
      → 0 < length rest → ((e : Entry) (tail : List ℕ) → Fit e → rest ≢ line_of e ++ tail)
      → Reads s (Err (night_error.Malformed (suc (length es))))
  -- behind 65,535 lines anything at all
  too_many : (es : List Entry) (rest : List ℕ) → s ≡ written es ++ rest → AllFit es → length es ≡ most_lines
      → 0 < length rest → Reads s (Err night_error.TooMany)
