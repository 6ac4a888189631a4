-- `elchepur_interpolate` meets its contract: it is `dense`'s own, read field by field.
use mathlib.Core.Path.{ap, ◌∙◌}
use Rattle.dense.specs.Answers.{interpolated_number}
use Rattle.export.proofs.dense_output.elchepur_interpolate.Goals as goal

pub returns : goal.returns
returns c = (
  c.interpolated.ensures
      ∙ ap (λ found. interpolated_number found.answer) c.interpolate.ensures,
  ap (λ found. found.yi) c.interpolate.ensures,
)
