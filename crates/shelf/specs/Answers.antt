-- What putting and asking answer and leave behind, and the number of each answer (01, 'Numbers that refuse', and 02).
use Rattle.std.specs.Prelude.{ℕ, List, Result, Ok, Err, Float}
use Rattle.shelf.specs.declared.answers.Shelf.{Shelf}
use Rattle.shelf.specs.declared.answers.ShelfError.{ShelfError}
use Rattle.shelf.specs.declared.answers.ShelfError.TheVariants as shelf_error

-- the shelf from now on, or why the step isn't kept
abbrev pub Placing : Type 0
Placing = Result Shelf ShelfError

-- the target holds the amounts, or why it doesn't
abbrev pub Asking : Type 0
Asking = Result Unit ShelfError

abbrev pub error_number : ShelfError → ℕ
error_number shelf_error.Length = 2
error_number shelf_error.State = 13
error_number shelf_error.Point = 25

-- 0 where nothing is refused
abbrev pub placing_number : Placing → ℕ
placing_number (Ok s) = 0
placing_number (Err e) = error_number e

abbrev pub asking_number : Asking → ℕ
asking_number (Ok done) = 0
asking_number (Err e) = error_number e

-- the answer, and how the two parts are left
pub record Placed : Type 0 where
  pub answer : Placing
  pub coefficients : List Float
  pub ends : List Float

abbrev pub placed : Placing → List Float → List Float → Placed
placed r coefficients ends = record { answer = r; coefficients = coefficients; ends = ends }

-- the answer, and how the target is left
pub record Asked : Type 0 where
  pub answer : Asking
  pub target : List Float

abbrev pub asked : Asking → List Float → Asked
asked r target = record { answer = r; target = target }
