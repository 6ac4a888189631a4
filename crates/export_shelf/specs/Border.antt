-- A shelf's state as two numbers: how many steps are kept, and the place of the next.
use Rattle.std.specs.Prelude.{ℕ, List, [], ◌∷◌, get_or, Ok, Err}
use Rattle.shelf.specs.declared.answers.Shelf.{Shelf}
use Rattle.shelf.specs.Answers.{Placing}
use Rattle.shelf.specs.Shelf.{shelf}

abbrev pub shelf_from : List ℕ → Shelf
shelf_from words = shelf (get_or words 0 0) (get_or words 1 0)

abbrev pub shelf_words : Shelf → List ℕ
shelf_words s = s.steps ∷ s.place ∷ []

-- a refusal leaves them as they were
unfoldable pub words_after : Placing → List ℕ → List ℕ
words_after (Ok s) words = shelf_words s
words_after (Err e) words = words
