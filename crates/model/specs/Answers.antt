-- What `derivative` answers and leaves behind, and 01's number for each answer ('Numbers that refuse').
use Rattle.std.specs.Prelude.{ℕ, List, Result, Ok, Err, Float}
use Rattle.model.specs.declared.answers.DerivativeError.{DerivativeError}
use Rattle.model.specs.declared.answers.DerivativeError.TheVariants as derivative_error

-- the target holds the derivative, or why it doesn't
abbrev pub Derived : Type 0
Derived = Result Unit DerivativeError

-- 01's number, and 0 where nothing is refused: 2 is 'a lent part has the wrong length'; an unknown species is what a
-- sheet is malformed for, 20
abbrev pub derived_number : Derived → ℕ
derived_number (Ok done) = 0
derived_number (Err derivative_error.Length) = 2
derived_number (Err derivative_error.Species) = 20

-- the answer, and how the target is left
pub record Derivation : Type 0 where
  pub answer : Derived
  pub dy : List Float

abbrev pub derivation : Derived → List Float → Derivation
derivation r dy = record { answer = r; dy = dy }
