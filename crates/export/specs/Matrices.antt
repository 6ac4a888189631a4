-- What a place for the column of a zero pivot holds after a decomposition: it is written with 17 only (02, [3]).
use Rattle.std.specs.Prelude.{ℕ, Ok, Err}
use Rattle.matrix.specs.declared.answers.DecompositionError.TheVariants.{Singular, Order, Length}
use Rattle.matrix.specs.Answers.{Decomposed}

abbrev pub column_left : Decomposed → ℕ → ℕ
column_left (Ok done) before = before
column_left (Err Order) before = before
column_left (Err Length) before = before
column_left (Err (Singular k)) before = k
