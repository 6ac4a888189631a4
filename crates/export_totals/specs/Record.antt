-- The record of a night as 37 words: its totals, then the line that has begun. Read, every word means something: of a
-- flag 0 is no, and any other word yes.
use Rattle.std.specs.Prelude.{ℕ, Bool, not, List, [], ◌∷◌, ◌++◌, eqb, get_or, drop}
use Rattle.words.specs.Loop.{pick}
use Rattle.night_totals.specs.declared.filling.Filling.{Filling}
use Rattle.night_totals.specs.declared.filling.Number.{Number}
use Rattle.night_totals.specs.declared.filling.Number.TheVariants as numbers
use Rattle.night_totals.specs.Night.{fed_of}
use Rattle.night_totals.specs.declared.totals.Totals.{Totals}
use Rattle.night_totals.specs.declared.night.Night.{Night}
use Rattle.night_totals.specs.declared.night.Stand.{Stand}
use Rattle.night_totals.specs.declared.night.Stand.TheVariants as stands

abbrev pub flag_of : ℕ → Bool
flag_of word = not (eqb word 0)

-- ---- written

abbrev pub totals_words : Totals → List ℕ
totals_words t =
    t.lines ∷ t.runs.status0 ∷ t.runs.status1 ∷ t.runs.status2 ∷ t.runs.status3 ∷ t.runs.status5
    ∷ t.runs.status7 ∷ t.counts.accepted ∷ t.counts.rejected
    ∷ t.counts.total ∷ t.counts.ode ∷ t.counts.jac ∷ t.counts.lu ∷ t.largest ∷ t.place ∷ []

-- a flag, and what stands beside it
abbrev pub beyond_word : Stand → ℕ
beyond_word stands.Open = 0
beyond_word stands.Wrong = 0
beyond_word stands.Beyond = 1
beyond_word stands.WrongBeyond = 1

abbrev pub wrong_word : Stand → ℕ
wrong_word stands.Open = 0
wrong_word stands.Wrong = 1
wrong_word stands.Beyond = 0
wrong_word stands.WrongBeyond = 1

abbrev pub begun_word : Number → ℕ
begun_word (numbers.Awaited v) = 0
begun_word (numbers.Begun v) = 1

abbrev pub value_word : Number → ℕ
value_word (numbers.Awaited v) = v
value_word (numbers.Begun v) = v

abbrev pub line_words : Night → List ℕ
line_words n =
    beyond_word n.stand ∷ n.filling.at ∷ begun_word n.filling.number ∷ value_word n.filling.number
    ∷ n.filling.filled ∷ wrong_word n.stand ∷ n.filling.values

unfoldable pub words_of : Night → List ℕ
words_of n = totals_words n.totals ++ line_words n

-- ---- read

abbrev pub totals_from : List ℕ → Totals
totals_from w =
    record {
      lines = get_or w 0 0;
      runs = record {
        status0 = get_or w 1 0;
        status1 = get_or w 2 0;
        status2 = get_or w 3 0;
        status3 = get_or w 4 0;
        status5 = get_or w 5 0;
        status7 = get_or w 6 0;
      };
      counts = record {
        accepted = get_or w 7 0;
        rejected = get_or w 8 0;
        total = get_or w 9 0;
        ode = get_or w 10 0;
        jac = get_or w 11 0;
        lu = get_or w 12 0;
      };
      largest = get_or w 13 0;
      place = get_or w 14 0;
    }

abbrev pub number_from : ℕ → ℕ → Number
number_from begun value = pick (flag_of begun) (numbers.Begun value) (numbers.Awaited value)

abbrev pub filling_from : List ℕ → Filling
filling_from w =
    record {
      at = get_or w 16 0;
      number = number_from (get_or w 17 0) (get_or w 18 0);
      filled = get_or w 19 0;
      values = drop 21 w;
    }

abbrev pub stand_from : ℕ → ℕ → Stand
stand_from beyond wrong =
    pick (flag_of beyond) (pick (flag_of wrong) stands.WrongBeyond stands.Beyond)
    (pick (flag_of wrong) stands.Wrong stands.Open)

unfoldable pub night_from : List ℕ → Night
night_from w =
    record {
      stand = stand_from (get_or w 15 0) (get_or w 20 0);
      filling = filling_from w;
      totals = totals_from w;
    }

-- the words after a piece
abbrev pub fed_words : List ℕ → List ℕ → List ℕ
fed_words w piece = words_of (fed_of (night_from w) piece)
