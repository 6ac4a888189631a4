-- The lines that are read (02, [12]): status lines as `decay` prints them, with a status of 0, 1, 2, 3, 5, 7 and counts
-- of no more than 10,000,000,000.
use Rattle.std.specs.Prelude.{◌≡◌, ℕ, Bool, true, List, [], ◌∷◌, ◌++◌, ◌==◌, nat_le, ◌&&◌, ◌||◌}
use Rattle.forecast_text.specs.Printed.{text}
use Rattle.night_totals.specs.Form.{spelt}
use Rattle.night_totals.specs.Counts.{counts_within}
use Rattle.night_totals.specs.declared.entry.Entry.{Entry}

abbrev pub line_form : List ℕ
line_form = text "status # accepted # rejected # total # ode # jac # lu #\n"

abbrev pub numbers_of : Entry → List ℕ
numbers_of e =
    e.status ∷ e.counts.accepted ∷ e.counts.rejected ∷ e.counts.total ∷ e.counts.ode ∷ e.counts.jac ∷ e.counts.lu ∷ []

-- a line, with its LF
abbrev pub line_of : Entry → List ℕ
line_of e = spelt line_form 0 (numbers_of e)

-- lines one after the other
unfoldable pub written : List Entry → List ℕ
written [] = []
written (e ∷ es) = line_of e ++ written es

unfoldable pub known_status : ℕ → Bool
known_status s = nat_le s 3 || ((s == 5) || (s == 7))

-- no count of a line is above it
abbrev pub most_count : ℕ
most_count = 10000000000

-- the most lines of a night
abbrev pub most_lines : ℕ
most_lines = 65535

unfoldable pub fit_entry : Entry → Bool
fit_entry e = known_status e.status && counts_within e.counts most_count

abbrev pub Fit : Entry → Type 0
Fit e = fit_entry e ≡ true

pub data AllFit : List Entry → Type 0 where
  none : AllFit []
  and : {e : Entry} {es : List Entry} → Fit e → AllFit es → AllFit (e ∷ es)
