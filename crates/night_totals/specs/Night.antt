-- What a byte, and a piece of bytes, does to the record of a night: the code's own definition. What it comes to for the
-- whole text is Reads, and that the two agree a theorem.
use Rattle.std.specs.Prelude.{ℕ, Bool, List, [], ◌∷◌, ◌==◌, nat_le, nat_lt, slice_index}
use Rattle.std.specs.Prelude.{◌&&◌, ◌||◌, Option, None, Some, Result, Ok, Err}
use Rattle.words.specs.Loop.{pick}
pub use Rattle.night_totals.specs.Counts.{plus}
use Rattle.night_totals.specs.Counts.{added_counts, counted_runs}
use Rattle.night_totals.specs.Filling.{blank_of, filled_of}
use Rattle.night_totals.specs.Entries.{line_form, most_lines, fit_entry}
use Rattle.night_totals.specs.declared.entry.Entry.{Entry}
use Rattle.night_totals.specs.declared.filling.Filling.{Filling}
use Rattle.night_totals.specs.declared.totals.Totals.{Totals}
use Rattle.night_totals.specs.declared.night.Night.{Night}
use Rattle.night_totals.specs.declared.night.Stand.{Stand}
use Rattle.night_totals.specs.declared.night.Stand.TheVariants as stands
use Rattle.night_totals.specs.declared.night.NightError.{NightError}
use Rattle.night_totals.specs.declared.night.NightError.TheVariants as night_error

abbrev pub no_totals : Totals
no_totals =
    record {
      lines = 0;
      runs = record {
        status0 = 0;
        status1 = 0;
        status2 = 0;
        status3 = 0;
        status5 = 0;
        status7 = 0;
      };
      counts = record {
        accepted = 0;
        rejected = 0;
        total = 0;
        ode = 0;
        jac = 0;
        lu = 0;
      };
      largest = 0;
      place = 0;
    }

unfoldable pub leads_of : Totals → ℕ → Bool
leads_of t ode = (t.lines == 0) || nat_lt t.largest ode

abbrev pub added_of : Totals → Entry → Totals
added_of t e =
    record {
      lines = plus t.lines 1;
      runs = counted_runs t.runs e.status;
      counts = added_counts t.counts e.counts;
      largest = pick (leads_of t e.counts.ode) e.counts.ode t.largest;
      place = pick (leads_of t e.counts.ode) (plus t.lines 1) t.place;
    }

abbrev pub entry_from : List ℕ → Entry
entry_from vs =
    record {
      status = slice_index vs 0;
      counts = record {
        accepted = slice_index vs 1;
        rejected = slice_index vs 2;
        total = slice_index vs 3;
        ode = slice_index vs 4;
        jac = slice_index vs 5;
        lu = slice_index vs 6;
      };
    }

abbrev pub night_at : Stand → Filling → Totals → Night
night_at stand q t = record { stand = stand; filling = q; totals = t }

abbrev pub start_of : Night
start_of = night_at stands.Open blank_of no_totals

-- a byte would begin a line too many
unfoldable pub full_of : Filling → Totals → Bool
full_of q t = (q.at == 0) && nat_le most_lines t.lines

-- a line is one too many; that one was wrong is not forgotten
abbrev pub beyond_of : Stand → Stand
beyond_of stands.Open = stands.Beyond
beyond_of stands.Wrong = stands.WrongBeyond
beyond_of stands.Beyond = stands.Beyond
beyond_of stands.WrongBeyond = stands.WrongBeyond

-- nothing more can come
abbrev pub wrong_at : Totals → Night
wrong_at t = night_at stands.Wrong blank_of t

-- a line that has come whole is added, where it is fit
unfoldable pub judged_of : Totals → Option Filling → Night
judged_of t None = wrong_at t
judged_of t (Some q) =
    pick (q.at == 56)
    (pick (fit_entry (entry_from q.values)) (night_at stands.Open blank_of (added_of t (entry_from q.values)))
    (wrong_at t))
    (night_at stands.Open q t)

abbrev pub stepped : Stand → Filling → Totals → ℕ → Night
stepped stands.Open q t b = judged_of t (filled_of line_form q b)
stepped stands.Wrong q t b = wrong_at t
stepped stands.Beyond q t b = night_at stands.Beyond q t
stepped stands.WrongBeyond q t b = night_at stands.WrongBeyond q t

unfoldable pub step_of : Night → ℕ → Night
step_of n b = pick (full_of n.filling n.totals) (night_at (beyond_of n.stand) n.filling n.totals)
    (stepped n.stand n.filling n.totals b)

unfoldable pub fed_of : Night → List ℕ → Night
fed_of n [] = n
fed_of n (b ∷ piece) = fed_of (step_of n b) piece

abbrev pub told_by : Stand → Filling → Totals → Result Totals NightError
told_by stands.Open q t = pick (q.at == 0) (Ok t) (Err (night_error.Malformed (plus t.lines 1)))
told_by stands.Wrong q t = Err (night_error.Malformed (plus t.lines 1))
told_by stands.Beyond q t = Err night_error.TooMany
told_by stands.WrongBeyond q t = Err night_error.TooMany

unfoldable pub told_of : Night → Result Totals NightError
told_of n = told_by n.stand n.filling n.totals
