-- What is read (02, [13]): totals as `totals` prints them, one after another, each number with at most 16 digits.
use Rattle.std.specs.Prelude.{◌≡◌, ℕ, zero, suc, ◌<◌, List, [], ◌∷◌, ◌++◌, ◌==◌, slice_index, Ok}
use Rattle.words.specs.Loop.{pick}
use Rattle.sheet.specs.Sheet.{line_feed}
use Rattle.night_totals.specs.Printed.{totals_numbers, printed_of}
use Rattle.night_totals.specs.declared.totals.Totals.{Totals}

abbrev pub printed : Totals → List ℕ
printed t = printed_of (Ok t)

-- no number has more than 16 digits
abbrev pub Short : Totals → Type 0
Short t = (k : ℕ) → slice_index (totals_numbers t) k < 10000000000000000

pub data AllShort : List Totals → Type 0 where
  nothing : AllShort []
  another : {t : Totals} {ts : List Totals} → Short t → AllShort ts → AllShort (t ∷ ts)

-- one after another
unfoldable pub printed_all : List Totals → List ℕ
printed_all [] = []
printed_all (t ∷ ts) = printed t ++ printed_all ts

-- the first n lines of a text, each with its LF
unfoldable pub first_lines : List ℕ → ℕ → List ℕ
first_lines [] n = []
first_lines (b ∷ s) zero = []
first_lines (b ∷ s) (suc n) = b ∷ first_lines s (pick (b == line_feed) n (suc n))

-- a text begins with the first n lines of some totals
pub record Begins (n : ℕ) (s : List ℕ) : Type 0 where
  pub t : Totals
  pub short : Short t
  pub rest : List ℕ
  pub is : s ≡ first_lines (printed t) n ++ rest
