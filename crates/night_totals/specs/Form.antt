-- A text of a fixed form: the form with a number in place of each `#`, in decimal and with no zero in front, as
-- `decay` prints numbers.
use Rattle.std.specs.Prelude.{ℕ, ◌+◌, List, [], ◌∷◌, ◌++◌, ◌==◌, slice_index}
use Rattle.words.specs.Loop.{pick}
use Rattle.forecast_text.specs.Printed.{numeral_of}

-- the byte of `#`
abbrev pub slot : ℕ
slot = 35

-- the text whose numbers are those of vs, from the k-th on
unfoldable pub spelt : List ℕ → ℕ → List ℕ → List ℕ
spelt [] k vs = []
spelt (x ∷ form) k vs =
    pick (x == slot) (numeral_of (slice_index vs k)) (x ∷ []) ++ spelt form (k + pick (x == slot) 1 0) vs
