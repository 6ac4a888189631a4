-- What comes of comparing one value more.
use Rattle.std.specs.Prelude.{ℕ, ◌+◌, ◌%◌, ◌^◌, Bool, true, false, ◌==◌, List, [], ◌∷◌, length, Option, Some, None}
use Rattle.std.specs.Prelude.{Result, Ok, Err}
use Rattle.std.specs.Option.{option_or}
use Rattle.words.specs.Loop.{pick}
use Rattle.replay.specs.declared.found.Difference.{Difference}
use Rattle.replay.specs.declared.found.Found.{Found}
use Rattle.replay.specs.declared.word.ReadError.{ReadError}

abbrev pub one_more : ℕ → ℕ
one_more k = (k + 1) % 2 ^ 64

abbrev pub found : ℕ → ℕ → Option Difference → Bool → Found
found values differ first malformed =
    record { values = values; differ = differ; first = first; malformed = malformed }

abbrev pub difference : ℕ → ℕ → ℕ → Difference
difference place gave wanted = record { place = place; gave = gave; wanted = wanted }

abbrev pub nothing_of : Found
nothing_of = found 0 0 None false

-- each that differs is counted, and the first is kept
abbrev pub compared_of : Found → ℕ → ℕ → Found
compared_of f gave wanted =
    found (one_more f.values) (pick (gave == wanted) f.differ (one_more f.differ))
    (pick (gave == wanted) f.first (option_or f.first (Some (difference f.values gave wanted)))) f.malformed

abbrev pub unread_value_of : Found → Found
unread_value_of f = found f.values f.differ f.first true

abbrev pub number_of : Bool → ℕ
number_of b = pick b 1 0

abbrev pub held_against_of : Found → ℕ → Result ℕ ReadError → Found
held_against_of f gave (Ok wanted) = compared_of f gave wanted
held_against_of f gave (Err e) = unread_value_of f

-- bytes held against others, as far as both go, behind what was found before
abbrev pub bytes_behind : Found → List ℕ → List ℕ → Found
bytes_behind f [] wanted = f
bytes_behind f (g ∷ gave) [] = f
bytes_behind f (g ∷ gave) (w ∷ wanted) = bytes_behind (compared_of f g w) gave wanted

-- the lengths are compared first
abbrev pub of_texts : List ℕ → List ℕ → Found
of_texts gave wanted = bytes_behind (compared_of nothing_of (length gave) (length wanted)) gave wanted
