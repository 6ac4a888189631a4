-- `elchepur_lu_decomp_complex` meets its contract: it is `matrix`'s own, read field by field. Assumes nothing.
use mathlib.Core.Path.{ap, ◌∙◌}
use Rattle.matrix.specs.Answers.{decomposed_number}
use Rattle.export.specs.Matrices.{column_left}
use Rattle.export.proofs.matrices.elchepur_lu_decomp_complex.Goals as goal

pub returns : goal.returns
returns c = (
  c.decomposed.ensures.0 ∙ ap (λ found. decomposed_number found.answer) c.lu_decomp_complex.ensures,
  ap (λ found. found.a) c.lu_decomp_complex.ensures,
  ap (λ found. found.ip) c.lu_decomp_complex.ensures,
  c.decomposed.ensures.1
      ∙ ap (λ found. column_left found.answer c.args.column.now) c.lu_decomp_complex.ensures,
)
