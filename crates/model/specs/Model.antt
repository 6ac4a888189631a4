-- The derivative of a model of reactions, operation by operation (01, 'Sheet and program'): 'Derivatives start at +0.
-- In order, v is the rate times each reactant present; v is subtracted at each reactant, then added at each product.'
-- Species count from 1; 0 is none.
use Rattle.std.specs.Prelude.{ℕ, ◌-◌, List, [], ◌∷◌, eqb, length, set, Float}
use Rattle.words.specs.Words.{◌⊕◌, ◌⊖◌, ◌⊗◌, ◌!◌}
use Rattle.words.specs.Loop.{pick}
use Rattle.state.specs.Memory.{zeros}

pub record Reaction : Type 0 where
  pub rate : Float
  pub reactant1 : ℕ
  pub reactant2 : ℕ
  pub product1 : ℕ
  pub product2 : ℕ

abbrev pub reaction : Float → ℕ → ℕ → ℕ → ℕ → Reaction
reaction rate r1 r2 p1 p2 = record { rate = rate; reactant1 = r1; reactant2 = r2; product1 = p1; product2 = p2 }

-- v times the amount of a species, if it is present
unfoldable pub times_amount : List Float → ℕ → Float → Float
times_amount y s v = pick (eqb s 0) v (v ⊗ y ! (s - 1))

-- 'v is the rate times each reactant present'
unfoldable pub speed_of : List Float → Reaction → Float
speed_of y r = times_amount y r.reactant2 (times_amount y r.reactant1 r.rate)

-- v subtracted at a species, and added at one, if it is present
unfoldable pub lessened : Float → ℕ → List Float → List Float
lessened v s dy = pick (eqb s 0) dy (set dy (s - 1) (dy ! (s - 1) ⊖ v))

unfoldable pub raised : Float → ℕ → List Float → List Float
raised v s dy = pick (eqb s 0) dy (set dy (s - 1) (dy ! (s - 1) ⊕ v))

-- 'v is subtracted at each reactant, then added at each product'
unfoldable pub reacted : List Float → Reaction → List Float → List Float
reacted y r dy =
    let v = speed_of y r in
    let less = lessened v r.reactant2 (lessened v r.reactant1 dy) in
    raised v r.product2 (raised v r.product1 less)

-- 'In order'
abbrev pub all_reacted : List Float → List Reaction → List Float → List Float
all_reacted y [] dy = dy
all_reacted y (r ∷ rs) dy = all_reacted y rs (reacted y r dy)

-- 'Derivatives start at +0': the derivative of the amounts y, as many numbers as there are amounts
unfoldable pub derivative_of : List Float → List Reaction → List Float
derivative_of y rs = all_reacted y rs (zeros (length y))
