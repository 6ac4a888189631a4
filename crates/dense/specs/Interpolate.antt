-- `interpolate` (radau.rs:801-812): the amounts at a point, from the coefficients that a step left.
-- Each of n amounts has four; they lie in one list, c0 from 0 on, c1 from n, c2 from 2n, c3 from 3n (radau.rs:805-808).
use Rattle.std.specs.Prelude.{ℕ, ◌+◌, ◌*◌, ◌/◌, List, ltb, length, set, Ok, Err, Float}
use Rattle.words.specs.Words.{◌⊕◌, ◌⊖◌, ◌⊗◌, ◌⊘◌, ◌!◌}
use Rattle.words.specs.Loop.{loop, pick}
use Rattle.scalar.specs.Coefficients.{C1M1, C2M1}
use Rattle.dense.specs.declared.answers.InterpolationError.TheVariants.{ShortTarget}
use Rattle.dense.specs.Answers.{Interpolation, interpolation}

-- where xi lies, counted in steps from the end of the step [radau.rs:803-804]
unfoldable pub place_of : Float → Float → Float → Float
place_of xi xold h = (xi ⊖ (xold ⊕ h)) ⊘ h

-- the polynomial of an amount, at the place s [radau.rs:810-812]
unfoldable pub polynomial_of : Float → Float → Float → Float → Float → Float
polynomial_of s c0 c1 c2 c3 = c0 ⊕ s ⊗ (c1 ⊕ (s ⊖ C2M1) ⊗ (c2 ⊕ (s ⊖ C1M1) ⊗ c3))

-- amount i of n [radau.rs:805-808]
unfoldable pub amount_of : Float → ℕ → List Float → ℕ → Float
amount_of s n cont i = polynomial_of s (cont ! i) (cont ! (n + i)) (cont ! (2 * n + i)) (cont ! (3 * n + i))

-- one turn of the loop [radau.rs:809]
unfoldable pub interpolate_at : Float → ℕ → List Float → ℕ → List Float → List Float
interpolate_at s n cont i yi = set yi i (amount_of s n cont i)

-- Refusal 19, then the work (01, 'Numbers that refuse') [radau.rs:801-802].
unfoldable pub interpolate_of : Float → List Float → List Float → Float → Float → Interpolation
interpolate_of xi yi cont xold h =
    let n = length cont / 4 in
    let s = place_of xi xold h in
    pick (ltb (length yi) n)
    (interpolation (Err ShortTarget) yi)
    (interpolation (Ok tt) (loop (interpolate_at s n cont) 0 n yi))
