-- `elchepur_lin_solve_complex` meets its contract: it is `matrix`'s own, read field by field. Assumes nothing.
use mathlib.Core.Path.{ap, ◌∙◌}
use Rattle.matrix.specs.Answers.{solved_number}
use Rattle.export.proofs.matrices.elchepur_lin_solve_complex.Goals as goal

pub returns : goal.returns
returns c = (
  c.solved.ensures
      ∙ ap (λ found. solved_number found.answer)
      c.lin_solve_complex.ensures,
  ap (λ found. found.b) c.lin_solve_complex.ensures,
)
