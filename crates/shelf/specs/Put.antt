-- A step is put on a shelf.
use Rattle.std.specs.Prelude.{◌*◌, ◌/◌, not, ◌&&◌, List, [], ◌∷◌, eqb, length, Float, Ok, Err}
use Rattle.words.specs.Loop.{pick}
use Rattle.shelf.specs.declared.answers.Shelf.{Shelf}
use Rattle.shelf.specs.declared.answers.ShelfError.TheVariants as shelf_error
use Rattle.shelf.specs.Shelf.{place_after, steps_after, shelf, over}
use Rattle.shelf.specs.Answers.{Placed, placed}
use Rattle.shelf.specs.Refusals.{room_fits, shelf_fits}

-- the step stands at the shelf's place, which moves on
abbrev pub put_at : Shelf → List Float → Float → Float → List Float → List Float → Placed
put_at s cont xold h coefficients ends =
    placed (Ok (shelf (steps_after s.steps) (place_after s.place)))
    (over (s.place * length cont) cont coefficients)
    (over (2 * s.place) (xold ∷ h ∷ []) ends)

-- the coefficients are those of n amounts, four for each
unfoldable pub put_of : Shelf → List Float → Float → Float → List Float → List Float → Placed
put_of s cont xold h coefficients ends =
    let n = length cont / 4 in
    pick (not (eqb (length cont) (4 * n) && room_fits n (length coefficients) (length ends)))
    (placed (Err shelf_error.Length) coefficients ends)
    (pick (not (shelf_fits s))
    (placed (Err shelf_error.State) coefficients ends)
    (put_at s cont xold h coefficients ends))
