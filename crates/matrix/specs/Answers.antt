-- What the four routines answer and leave behind, and 01's number for each answer ('Numbers that refuse').
use Rattle.std.specs.Prelude.{ℕ, List, Result, Ok, Err}
use Rattle.matrix.specs.declared.answers.DecompositionError.{DecompositionError}
use Rattle.matrix.specs.declared.answers.DecompositionError.TheVariants as undone
use Rattle.matrix.specs.declared.answers.SolveError.{SolveError}
use Rattle.matrix.specs.declared.answers.SolveError.TheVariants as unsolved

-- what a decomposition answers, and what solving answers
abbrev pub Decomposed : Type 0
Decomposed = Result (Unit {0}) DecompositionError

abbrev pub Solved : Type 0
Solved = Result (Unit {0}) SolveError

-- 01's number, and 0 where nothing is refused
abbrev pub decomposed_number : Decomposed → ℕ
decomposed_number (Ok done) = 0
decomposed_number (Err undone.Order) = 1
decomposed_number (Err undone.Length) = 16
decomposed_number (Err (undone.Singular k)) = 17

abbrev pub solved_number : Solved → ℕ
solved_number (Ok done) = 0
solved_number (Err unsolved.Order) = 1
solved_number (Err unsolved.Length) = 16
solved_number (Err unsolved.Pivot) = 18

-- Whether an elimination met a zero pivot, and in which column, counted from 0 (02, [3]).
pub data Stop : Type 0 where
  nowhere : Stop
  column : ℕ → Stop

abbrev pub stop_answer : Stop → Decomposed
stop_answer nowhere = Ok tt
stop_answer (column k) = Err (undone.Singular k)

-- what a decomposition of a matrix of the kind A answers, and how it leaves the matrix and the pivots
pub record Decomposition (A : Type 0) : Type 0 where
  pub answer : Decomposed
  pub a : A
  pub ip : List ℕ

abbrev pub decomposition : {A : Type 0} → Decomposed → A → List ℕ → Decomposition A
decomposition r a ip = record { answer = r; a = a; ip = ip }

-- what solving for a right side of the kind B answers, and how it leaves the right side
pub record Solution (B : Type 0) : Type 0 where
  pub answer : Solved
  pub b : B

abbrev pub solution : {B : Type 0} → Solved → B → Solution B
solution r b = record { answer = r; b = b }
