-- Wrong readings of 02's request for a shelf, each as a routine that takes it, and each refuted: for one list of steps
-- it gives what the contract doesn't allow.
--     not-oldest-first    at a point that two steps hold, the older one answers
--     not-strict-ends     a step doesn't hold its own ends
use mathlib.Core.Bool.{Bool, true≢false, ◌&&◌}
use mathlib.Core.Path.{◌≡◌, ap, sym}
use mathlib.Core.List.{List, [], ◌∷◌, ◌++◌}
use lib.Dec.{eqb}
use lib.Ieee.{Float, binary64, add, sub, mul, div, le, lt, of_bits, to_bits}
use Rattle.std.specs.Prelude.{Ok, Err}
use Rattle.words.specs.Words.{◌!◌}
use Rattle.words.specs.Constants.{«0·0», «1·0», «2·0»}
use Rattle.words.specs.Loop.{loop, pick}
use Rattle.dense.specs.Bounds.{bounds_of}
use Rattle.dense.specs.Interpolate.{place_of, polynomial_of, amount_of, interpolate_at, interpolate_of}
use Rattle.shelf.specs.declared.answers.ShelfError.TheVariants as shelf_error
use Rattle.shelf.specs.Shelf.{Step, step, holds}
use Rattle.shelf.specs.Answers.{Asked, asked, asking_number}
use Rattle.shelf.specs.Ask.{answer_of}

abbrev Routine : Type 0
Routine = Float → List Float → List Step → Asked

abbrev pub Meets : Routine → Type 0
Meets f = (x : Float) (target : List Float) (steps : List Step) → f x target steps ≡ answer_of x target steps

-- one amount that stays as it is: 1 from 0 to 1, and 2 from 1 to 2
abbrev older : Step
older = step («1·0» ∷ «0·0» ∷ «0·0» ∷ «0·0» ∷ []) «0·0» «1·0»

abbrev newer : Step
newer = step («2·0» ∷ «0·0» ∷ «0·0» ∷ «0·0» ∷ []) «1·0» «1·0»

-- ---- the oldest first

abbrev reversed : List Step → List Step
reversed [] = []
reversed (s ∷ rest) = reversed rest ++ s ∷ []

abbrev pub oldest_first : Routine
oldest_first x target steps = answer_of x target (reversed steps)

abbrev is_two : Asked → Bool
is_two o = eqb (to_bits binary64 (o.target ! 0)) 0x4000_0000_0000_0000

-- at 1, an end of both, the newer answers
pub not-oldest-first : Meets oldest_first → ⊥
unfolding answer_of holds bounds_of interpolate_of interpolate_at amount_of polynomial_of place_of loop pick add sub
    mul div le lt of_bits to_bits
not-oldest-first meets = true≢false (sym (ap is_two (meets «1·0» («0·0» ∷ []) (newer ∷ older ∷ []))))

-- ---- strict ends

abbrev pub strict_ends : Routine
strict_ends x target [] = asked (Err shelf_error.Point) target
strict_ends x target (s ∷ rest) =
    pick (lt (bounds_of s.xold s.h).left x && lt x (bounds_of s.xold s.h).right)
    (asked (Ok tt) (interpolate_of x target s.coefficients s.xold s.h).yi)
    (strict_ends x target rest)

abbrev is_answered : Asked → Bool
is_answered o = eqb (asking_number o.answer) 0

pub not-strict-ends : Meets strict_ends → ⊥
unfolding answer_of holds bounds_of interpolate_of interpolate_at amount_of polynomial_of place_of loop pick add sub
    mul div le lt of_bits to_bits
not-strict-ends meets = true≢false (sym (ap is_answered (meets «1·0» («0·0» ∷ []) (older ∷ []))))
