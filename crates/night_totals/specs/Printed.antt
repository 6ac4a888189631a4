-- The bytes that are printed of a night (02, [12]).
use Rattle.std.specs.Prelude.{ℕ, List, [], ◌∷◌, ◌++◌, replicate, slice_index, Result, Ok, Err}
use Rattle.forecast_text.specs.Printed.{text}
use Rattle.night_totals.specs.Form.{spelt}
use Rattle.night_totals.specs.declared.totals.Totals.{Totals}
use Rattle.night_totals.specs.declared.night.NightError.{NightError}
use Rattle.night_totals.specs.declared.night.NightError.TheVariants as night_error

abbrev pub totals_form : List ℕ
totals_form =
    text "lines #\nstatus 0 #\nstatus 1 #\nstatus 2 #\nstatus 3 #\nstatus 5 #\nstatus 7 #\n"
    ++ text "accepted #\nrejected #\ntotal #\node #\njac #\nlu #\nlargest # line #\n"

abbrev pub totals_numbers : Totals → List ℕ
totals_numbers t =
    t.lines ∷ t.runs.status0 ∷ t.runs.status1 ∷ t.runs.status2 ∷ t.runs.status3 ∷ t.runs.status5
    ∷ t.runs.status7 ∷ t.counts.accepted ∷ t.counts.rejected
    ∷ t.counts.total ∷ t.counts.ode ∷ t.counts.jac ∷ t.counts.lu ∷ t.largest ∷ t.place ∷ 0 ∷ []

abbrev pub totals_from : List ℕ → Totals
totals_from v =
    record {
      lines = slice_index v 0;
      runs = record {
        status0 = slice_index v 1;
        status1 = slice_index v 2;
        status2 = slice_index v 3;
        status3 = slice_index v 4;
        status5 = slice_index v 5;
        status7 = slice_index v 6;
      };
      counts = record {
        accepted = slice_index v 7;
        rejected = slice_index v 8;
        total = slice_index v 9;
        ode = slice_index v 10;
        jac = slice_index v 11;
        lu = slice_index v 12;
      };
      largest = slice_index v 13;
      place = slice_index v 14;
    }

abbrev pub one_number : ℕ → List ℕ
one_number n = n ∷ replicate 15 0

unfoldable pub printed_of : Result Totals NightError → List ℕ
printed_of (Ok t) = spelt totals_form 0 (totals_numbers t)
printed_of (Err (night_error.Malformed line)) = spelt (text "refused 20 #\n") 0 (one_number line)
printed_of (Err night_error.TooMany) = spelt (text "refused 26\n") 0 (one_number 0)
