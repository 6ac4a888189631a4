-- What programs in C are told of a line: document 02's number, the buffer, and the line's length. A refusal leaves the
-- last as it was too.
use Rattle.std.specs.Prelude.{ℕ, List, Result, Ok, Err}
use Rattle.csv_table.specs.declared.answers.ExportError.{ExportError}
use Rattle.csv_table.specs.Table.{Export, exported_number}

abbrev pub exported_length : Result ℕ ExportError → ℕ → ℕ
exported_length (Ok n) before = n
exported_length (Err x) before = before

pub record Told : Type 0 where
  pub answer : ℕ
  pub buffer : List ℕ
  pub written : ℕ

abbrev pub told : ℕ → List ℕ → ℕ → Told
told answer buffer written = record { answer = answer; buffer = buffer; written = written }

abbrev pub told_of : Export → ℕ → Told
told_of e before = told (exported_number e.answer) e.buffer (exported_length e.answer before)
