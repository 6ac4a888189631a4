-- The ends of a step as two doubles in a row, the left one first.
use Rattle.std.specs.Prelude.{List, [], ◌∷◌, Float}
use Rattle.dense.specs.declared.answers.Bounds.{Bounds}

abbrev pub ends_of : Bounds → List Float
ends_of bounds = bounds.left ∷ bounds.right ∷ []
