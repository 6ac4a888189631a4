-- The model as it lies in lent memory, and what `derivative` answers and leaves: the refusals that this port adds, then
-- the derivative of Model.antt.
use Rattle.std.specs.Prelude.{ℕ, zero, suc, ◌+◌, ◌*◌, ◌/◌, Bool, false, ◌&&◌, ◌||◌, List, [], ◌∷◌, ◌++◌, eqb, leb, ltb}
use Rattle.std.specs.Prelude.{length, get_or, Ok, Err, Float}
use Rattle.words.specs.Words.{◌!◌}
use Rattle.words.specs.Loop.{loop, pick}
use Rattle.model.specs.declared.answers.DerivativeError.TheVariants as derivative_error
use Rattle.model.specs.Answers.{Derivation, derivation}
use Rattle.model.specs.Model.{Reaction, reaction, derivative_of}

-- reaction i: its rate, and four numbers of species from place 4 * i on
abbrev pub reaction_at : List Float → List ℕ → ℕ → Reaction
reaction_at rates species i =
    reaction (rates ! i) (get_or species (4 * i) 0) (get_or species (4 * i + 1) 0)
    (get_or species (4 * i + 2) 0) (get_or species (4 * i + 3) 0)

-- the first reactions, in order
abbrev pub reactions_of : List Float → List ℕ → ℕ → List Reaction
reactions_of rates species zero = []
reactions_of rates species (suc i) = reactions_of rates species i ++ (reaction_at rates species i ∷ [])

-- whether one of the first numbers is above n, so that it is no species
unfoldable pub unknown_at : ℕ → List ℕ → ℕ → Bool → Bool
unknown_at n species k found = found || ltb n (get_or species k 0)

unfoldable pub unknown : ℕ → List ℕ → ℕ → Bool
unknown n species count = loop (unknown_at n species) 0 count false

-- whether the target is as long as the amounts, and rates and species are enough for the reactions
abbrev pub lengths_fit : ℕ → ℕ → ℕ → ℕ → ℕ → Bool
lengths_fit reactions y rates species dy = eqb dy y && leb reactions rates && leb reactions (species / 4)

-- Numbers 2 and 20, then the work.
unfoldable pub derived_of : ℕ → List Float → List Float → List ℕ → List Float → Derivation
derived_of reactions y rates species dy =
    pick (lengths_fit reactions (length y) (length rates) (length species) (length dy))
    (pick (unknown (length y) species (4 * reactions))
    (derivation (Err derivative_error.Species) dy)
    (derivation (Ok tt) (derivative_of y (reactions_of rates species reactions))))
    (derivation (Err derivative_error.Length) dy)
