-- A shelf of recent steps (02, [10]): a list of steps, the newest first, and how it stands in two parts of lent memory.
-- Each of 48 places has room for the 4n coefficients of a step, and for its old point and its held step.
use Rattle.std.specs.Prelude.{ℕ, zero, suc, ◌+◌, ◌*◌, Bool, ◌&&◌, List, [], ◌∷◌, ◌++◌, eqb, length, take, drop, Float}
use Rattle.std.specs.Float.Ieee.{le}
use Rattle.words.specs.Words.{◌!◌}
use Rattle.words.specs.Loop.{pick}
use Rattle.dense.specs.Bounds.{bounds_of}
use Rattle.shelf.specs.declared.answers.Shelf.{Shelf}

-- ---- the list of steps

pub record Step : Type 0 where
  pub coefficients : List Float
  pub xold : Float
  pub h : Float

abbrev pub step : List Float → Float → Float → Step
step coefficients xold h = record { coefficients = coefficients; xold = xold; h = h }

-- whether `bounds` of the step from xold by h hold x, ends included; a NaN on any side is no order
unfoldable pub holds : Float → Float → Float → Bool
holds x xold h = le (bounds_of xold h).left x && le x (bounds_of xold h).right

-- so many steps are kept
abbrev pub most_kept : ℕ
most_kept = 48

-- when all are taken the oldest gives up its room
abbrev pub shelved : Step → List Step → List Step
shelved s steps = take most_kept (s ∷ steps)

-- ---- in memory

abbrev pub last_place : ℕ
last_place = 47

-- the places stand in a ring
unfoldable pub place_before : ℕ → ℕ
place_before zero = last_place
place_before (suc place) = place

unfoldable pub place_after : ℕ → ℕ
place_after place = pick (eqb place last_place) 0 (place + 1)

unfoldable pub steps_after : ℕ → ℕ
steps_after steps = pick (eqb steps most_kept) most_kept (steps + 1)

abbrev pub shelf : ℕ → ℕ → Shelf
shelf steps place = record { steps = steps; place = place }

abbrev pub empty_shelf : Shelf
empty_shelf = shelf 0 0

-- the step at a place, of n amounts
unfoldable pub step_at : ℕ → List Float → List Float → ℕ → Step
step_at n coefficients ends place =
    step (take (4 * n) (drop (place * (4 * n)) coefficients)) (ends ! (2 * place)) (ends ! (2 * place + 1))

-- so many steps before a place, round the ring
unfoldable pub steps_before : ℕ → List Float → List Float → ℕ → ℕ → List Step
steps_before n coefficients ends place zero = []
steps_before n coefficients ends place (suc count) =
    step_at n coefficients ends (place_before place)
    ∷ steps_before n coefficients ends (place_before place) count

-- what stands on a shelf
abbrev pub kept_of : Shelf → ℕ → List Float → List Float → List Step
kept_of s n coefficients ends = steps_before n coefficients ends s.place s.steps

-- values put over those of a list, from a place on
unfoldable pub over : {A : Type 0} → ℕ → List A → List A → List A
over start values room = take start room ++ values ++ drop (start + length values) room
