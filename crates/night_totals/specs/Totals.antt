-- The totals of lines, each from the lines themselves (02, [12]).
use Rattle.std.specs.Prelude.{ℕ, ◌+◌, max, List, [], ◌∷◌, length, ◌==◌}
use Rattle.words.specs.Loop.{pick}
use Rattle.night_totals.specs.declared.entry.Entry.{Entry}
use Rattle.night_totals.specs.declared.totals.Totals.{Totals}

-- the sum of a count over the lines
unfoldable pub sum_of : (Entry → ℕ) → List Entry → ℕ
sum_of count [] = 0
sum_of count (e ∷ es) = count e + sum_of count es

-- how many lines have a status
unfoldable pub runs_of : ℕ → List Entry → ℕ
runs_of s [] = 0
runs_of s (e ∷ es) = pick (e.status == s) 1 0 + runs_of s es

unfoldable pub largest_of : List Entry → ℕ
largest_of [] = 0
largest_of (e ∷ es) = max e.counts.ode (largest_of es)

-- the number, from 1, of the first line with an ode; 0 of no lines
unfoldable pub first_of : ℕ → List Entry → ℕ
first_of ode [] = 0
first_of ode (e ∷ es) = pick (e.counts.ode == ode) 1 (first_of ode es + 1)

abbrev pub totals_of : List Entry → Totals
totals_of es =
    record {
      lines = length es;
      runs = record {
        status0 = runs_of 0 es;
        status1 = runs_of 1 es;
        status2 = runs_of 2 es;
        status3 = runs_of 3 es;
        status5 = runs_of 5 es;
        status7 = runs_of 7 es;
      };
      counts = record {
        accepted = sum_of (λ e. e.counts.accepted) es;
        rejected = sum_of (λ e. e.counts.rejected) es;
        total = sum_of (λ e. e.counts.total) es;
        ode = sum_of (λ e. e.counts.ode) es;
        jac = sum_of (λ e. e.counts.jac) es;
        lu = sum_of (λ e. e.counts.lu) es;
      };
      largest = largest_of es;
      place = first_of (largest_of es) es;
    }
