-- Two totals joined, the second's lines behind the first's (02, [13]).
use Rattle.std.specs.Prelude.{◌≡◌, ℕ, ◌+◌, ◌*◌, ◌<◌, max, Bool, true, ◌==◌, ◌≢◌, nat_le, nat_lt, ◌&&◌, ◌||◌}
use Rattle.std.specs.Prelude.{Result, Ok, Err}
use Rattle.words.specs.Loop.{pick}
use Rattle.night_totals.specs.Counts.{counts_within}
use Rattle.night_totals.specs.Entries.{most_count, most_lines}
use Rattle.night_totals.specs.declared.totals.Totals.{Totals}
use Rattle.night_join.specs.declared.joining.JoinError.{JoinError}
use Rattle.night_join.specs.declared.joining.JoinError.TheVariants as join_error

-- ---- totals that are not refused by 28

abbrev pub runs_in : Totals → ℕ
runs_in t = t.runs.status0 + t.runs.status1 + t.runs.status2 + t.runs.status3 + t.runs.status5 + t.runs.status7

-- each sum is one that so many lines can have
abbrev pub sums_within : Totals → Bool
sums_within t = counts_within t.counts (most_count * t.lines)

-- the place is that of a line, and 0 where there is none
unfoldable pub place_in : ℕ → ℕ → Bool
place_in lines place = nat_le place lines && ((lines == 0) || nat_lt 0 place)

unfoldable pub fit_totals : Totals → Bool
fit_totals t =
    nat_le t.lines most_lines
    && ((runs_in t == t.lines) && (sums_within t && (nat_le t.largest t.counts.ode && place_in t.lines t.place)))

abbrev pub Fit : Totals → Type 0
Fit t = fit_totals t ≡ true

-- ---- joined

-- the second's largest has its place behind the first's lines; of equal ones the first's stands
unfoldable pub place_of_both : Totals → Totals → ℕ
place_of_both a b =
    pick (a.lines == 0) b.place (pick (nat_lt a.largest b.largest) (a.lines + b.place) a.place)

unfoldable pub sum_totals : Totals → Totals → Totals
sum_totals a b =
    record {
      lines = a.lines + b.lines;
      runs = record {
        status0 = a.runs.status0 + b.runs.status0;
        status1 = a.runs.status1 + b.runs.status1;
        status2 = a.runs.status2 + b.runs.status2;
        status3 = a.runs.status3 + b.runs.status3;
        status5 = a.runs.status5 + b.runs.status5;
        status7 = a.runs.status7 + b.runs.status7;
      };
      counts = record {
        accepted = a.counts.accepted + b.counts.accepted;
        rejected = a.counts.rejected + b.counts.rejected;
        total = a.counts.total + b.counts.total;
        ode = a.counts.ode + b.counts.ode;
        jac = a.counts.jac + b.counts.jac;
        lu = a.counts.lu + b.counts.lu;
      };
      largest = max a.largest b.largest;
      place = place_of_both a b;
    }

-- 28 where a side is unfit, then 26 where there are too many lines
unfoldable pub join_of : Totals → Totals → Result Totals JoinError
join_of a b =
    pick (fit_totals a)
    (pick (fit_totals b)
    (pick (nat_lt most_lines (a.lines + b.lines)) (Err join_error.TooMany) (Ok (sum_totals a b)))
    (Err join_error.Unfit))
    (Err join_error.Unfit)

-- ---- what is joined further

-- the joined on the left of totals
unfoldable pub then_join : Result Totals JoinError → Totals → Result Totals JoinError
then_join (Ok t) c = join_of t c
then_join (Err e) c = Err e

-- and on their right
unfoldable pub join_then : Totals → Result Totals JoinError → Result Totals JoinError
join_then a (Ok t) = join_of a t
join_then a (Err e) = Err e

-- all but the place of the largest ode
abbrev pub placeless : Totals → Totals
placeless t =
    record {
      lines = t.lines;
      runs = record {
        status0 = t.runs.status0;
        status1 = t.runs.status1;
        status2 = t.runs.status2;
        status3 = t.runs.status3;
        status5 = t.runs.status5;
        status7 = t.runs.status7;
      };
      counts = record {
        accepted = t.counts.accepted;
        rejected = t.counts.rejected;
        total = t.counts.total;
        ode = t.counts.ode;
        jac = t.counts.jac;
        lu = t.counts.lu;
      };
      largest = t.largest;
      place = 0;
    }

unfoldable pub but_place : Result Totals JoinError → Result Totals JoinError
but_place (Ok t) = Ok (placeless t)
but_place (Err e) = Err e

-- ---- 28, as 02 lists it

pub data Unfit (t : Totals) : Type 0 where
  lines : most_lines < t.lines → Unfit t
  runs : (t.runs.status0 + t.runs.status1 + t.runs.status2 + t.runs.status3 + t.runs.status5 + t.runs.status7 ≢ t.lines)
      → Unfit t
  accepted : most_count * t.lines < t.counts.accepted → Unfit t
  rejected : most_count * t.lines < t.counts.rejected → Unfit t
  total : most_count * t.lines < t.counts.total → Unfit t
  ode : most_count * t.lines < t.counts.ode → Unfit t
  jac : most_count * t.lines < t.counts.jac → Unfit t
  lu : most_count * t.lines < t.counts.lu → Unfit t
  largest : t.counts.ode < t.largest → Unfit t
  above : t.lines < t.place → Unfit t
  nowhere : t.place ≡ 0 → 0 < t.lines → Unfit t
