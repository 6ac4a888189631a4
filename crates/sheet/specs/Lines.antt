-- How many lines end in a text: the LFs that it has.
use Rattle.std.specs.Prelude.{ℕ, ◌+◌, List, [], ◌∷◌}
use Rattle.sheet.specs.Numbers.{ends_of}

unfoldable pub lines_in : List ℕ → ℕ
lines_in [] = 0
lines_in (x ∷ text) = ends_of x + lines_in text
