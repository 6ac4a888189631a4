-- What is answered and left where a night is told, on plain numbers; and what calls one after the other lead to.
use Rattle.std.specs.Prelude.{ℕ, List, [], ◌∷◌, ◌++◌, Result, Ok, Err}
use Rattle.night_totals.specs.Night.{start_of}
use Rattle.night_totals.specs.declared.totals.Totals.{Totals}
use Rattle.night_totals.specs.declared.night.NightError.{NightError}
use Rattle.night_totals.specs.declared.night.NightError.TheVariants as night_error
use Rattle.night_join.specs.declared.joining.JoinError.{JoinError}
use Rattle.night_join.specs.declared.joining.JoinError.TheVariants as join_error
use Rattle.export_totals.specs.Record.{totals_words, words_of, fed_words}

pub record TotalsTold : Type 0 where
  pub number : ℕ
  pub totals : List ℕ
  pub line : ℕ

abbrev pub totals_told : ℕ → List ℕ → ℕ → TotalsTold
totals_told n totals line = record { number = n; totals = totals; line = line }

-- the line is told with 20 alone; a refusal leaves the totals as they were
unfoldable pub told_left : Result Totals NightError → List ℕ → ℕ → TotalsTold
told_left (Ok t) totals line = totals_told 0 (totals_words t) line
told_left (Err (night_error.Malformed k)) totals line = totals_told 20 totals k
told_left (Err night_error.TooMany) totals line = totals_told 26 totals line

-- the words after pieces that were taken one after the other
unfoldable pub taken_from : List ℕ → List (List ℕ) → List ℕ
taken_from words [] = words
taken_from words (piece ∷ pieces) = taken_from (fed_words words piece) pieces

abbrev pub taken_of : List (List ℕ) → List ℕ
taken_of pieces = taken_from (words_of start_of) pieces

-- the pieces in one
unfoldable pub whole_of : List (List ℕ) → List ℕ
whole_of [] = []
whole_of (piece ∷ pieces) = piece ++ whole_of pieces

-- ---- two totals joined

pub record TotalsJoined : Type 0 where
  pub number : ℕ
  pub totals : List ℕ

abbrev pub totals_joined : ℕ → List ℕ → TotalsJoined
totals_joined n totals = record { number = n; totals = totals }

-- a refusal leaves the totals as they were
unfoldable pub joined_left : Result Totals JoinError → List ℕ → TotalsJoined
joined_left (Ok t) totals = totals_joined 0 (totals_words t)
joined_left (Err join_error.Unfit) totals = totals_joined 28 totals
joined_left (Err join_error.TooMany) totals = totals_joined 26 totals
