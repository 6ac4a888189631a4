-- What is told of a line is what the line's own function answers.
use Prim.Native.Nat.{ℕ}
use mathlib.Core.Path.{◌≡◌, ap, ◌∙◌}
use mathlib.Core.List.{List}
use Rattle.std.specs.Prelude.{Result}
use Rattle.csv_table.specs.declared.answers.ExportError.{ExportError}
use Rattle.csv_table.specs.Table.{Export, export, exported_number}
use Rattle.export_csv.specs.Told.{exported_length, told, told_of}

pub told-by : (answer : Result ℕ ExportError) (buffer : List ℕ) (before : ℕ) (e : Export) {number written : ℕ}
    → export answer buffer ≡ e → written ≡ exported_length answer before → number ≡ exported_number answer
    → told number buffer written ≡ told_of e before
told-by answer buffer before e {number} {written} p q r =
    ap (λ n. told n buffer written) r ∙ ap (λ k. told (exported_number answer) buffer k) q
    ∙ ap (λ x. told_of x before) p
