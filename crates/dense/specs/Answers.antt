-- What `interpolate` answers and leaves behind, and 01's number for each answer ('Numbers that refuse').
use Rattle.std.specs.Prelude.{ℕ, List, Result, Ok, Err, Float}
use Rattle.dense.specs.declared.answers.InterpolationError.{InterpolationError}
use Rattle.dense.specs.declared.answers.InterpolationError.TheVariants.{ShortTarget}

-- the target's first n entries hold the amounts, or it is refused
abbrev pub Interpolated : Type 0
Interpolated = Result Unit InterpolationError

-- 01's number, and 0 where nothing is refused
abbrev pub interpolated_number : Interpolated → ℕ
interpolated_number (Ok done) = 0
interpolated_number (Err ShortTarget) = 19

-- the answer, and how the target is left
pub record Interpolation : Type 0 where
  pub answer : Interpolated
  pub yi : List Float

abbrev pub interpolation : Interpolated → List Float → Interpolation
interpolation r yi = record { answer = r; yi = yi }
