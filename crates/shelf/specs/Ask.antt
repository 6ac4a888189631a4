-- A shelf is asked at a point: the newest kept step that holds it answers, with what `interpolate` gives there.
use Rattle.std.specs.Prelude.{◌≡◌, false, not, List, [], ◌∷◌, length, Float, Ok, Err}
use Rattle.words.specs.Loop.{pick}
use Rattle.dense.specs.Interpolate.{interpolate_of}
use Rattle.shelf.specs.declared.answers.Shelf.{Shelf}
use Rattle.shelf.specs.declared.answers.ShelfError.TheVariants as shelf_error
use Rattle.shelf.specs.Shelf.{Step, holds, kept_of}
use Rattle.shelf.specs.Answers.{Asked, asked}
use Rattle.shelf.specs.Refusals.{room_fits, shelf_fits}

-- of a list of steps, the newest first
unfoldable pub answer_of : Float → List Float → List Step → Asked
answer_of x target [] = asked (Err shelf_error.Point) target
answer_of x target (s ∷ older) =
    pick (holds x s.xold s.h)
    (asked (Ok tt) (interpolate_of x target s.coefficients s.xold s.h).yi)
    (answer_of x target older)

-- Refusal 2, then 13, then the answer or 25; n is the target's length.
unfoldable pub ask_of : Shelf → Float → List Float → List Float → List Float → Asked
ask_of s x target coefficients ends =
    let n = length target in
    pick (not (room_fits n (length coefficients) (length ends))) (asked (Err shelf_error.Length) target)
    (pick (not (shelf_fits s)) (asked (Err shelf_error.State) target)
    (answer_of x target (kept_of s n coefficients ends)))

-- no step of a list holds x
unfoldable pub NoneHolds : Float → List Step → Type 0
NoneHolds x [] = Unit
NoneHolds x (s ∷ older) = (holds x s.xold s.h ≡ false) × NoneHolds x older
