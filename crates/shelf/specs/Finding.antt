-- The place of the newest step that holds x, of so many before a place, round the ring.
use Rattle.std.specs.Prelude.{ℕ, zero, suc, ◌+◌, ◌*◌, List, Float, Option, Some, None}
use Rattle.words.specs.Words.{◌!◌}
use Rattle.words.specs.Loop.{pick}
use Rattle.shelf.specs.Shelf.{holds, place_before}

unfoldable pub found_from : Float → List Float → ℕ → ℕ → Option ℕ
found_from x ends place zero = None
found_from x ends place (suc count) =
    pick (holds x (ends ! (2 * place_before place)) (ends ! (2 * place_before place + 1)))
    (Some (place_before place))
    (found_from x ends (place_before place) count)
