-- What the code makes of any words, where sums wrap. Nobody need believe it: of fit totals it is the sum.
use Rattle.std.specs.Prelude.{ℕ, max, ◌==◌, nat_lt}
use Rattle.words.specs.Loop.{pick}
use Rattle.night_totals.specs.Counts.{plus, added_counts, added_runs}
use Rattle.night_totals.specs.declared.totals.Totals.{Totals}

unfoldable pub place_word : Totals → Totals → ℕ
place_word a b = pick (a.lines == 0) b.place (pick (nat_lt a.largest b.largest) (plus a.lines b.place) a.place)

abbrev pub sum_words : Totals → Totals → Totals
sum_words a b =
    record {
      lines = plus a.lines b.lines;
      runs = added_runs a.runs b.runs;
      counts = added_counts a.counts b.counts;
      largest = max a.largest b.largest;
      place = place_word a b;
    }
