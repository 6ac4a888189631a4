-- The record of a report: its x, and the amounts that are handed out with it.
use Rattle.std.specs.Prelude.{ℕ, List, Float, Option, Some, None, Result}
use Rattle.state.specs.declared.talk.Request.{Request}
use Rattle.state.specs.declared.talk.Request.TheVariants as request
use Rattle.csv_table.specs.Table.{record_of}
use Rattle.csv_table.specs.declared.answers.ExportError.{ExportError}

-- what is answered, and how the buffer is left
pub record Noted : Type 0 where
  pub answer : Option (Result ℕ ExportError)
  pub buffer : List ℕ

abbrev pub noted : Option (Result ℕ ExportError) → List ℕ → Noted
noted r buffer = record { answer = r; buffer = buffer }

unfoldable pub line_at : Request → List Float → List ℕ → Noted
line_at (request.Derivative x) y buffer = noted None buffer
line_at (request.Jacobian x) y buffer = noted None buffer
line_at (request.Report xold x offered) y buffer =
    let e = record_of x y buffer in noted (Some e.answer) e.buffer
line_at (request.Ended s) y buffer = noted None buffer
