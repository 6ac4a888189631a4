-- What each loop of `fill_column` keeps.
use Rattle.words.specs.Grid.{Square}
use Rattle.words.proofs.Loops.{Ran}
use Rattle.solve_blocks.specs.Jacobian.{column_at}
use Rattle.radau_core.proofs.jacobian.fill_column.Given as goal

abbrev pub invariant-loop-row : goal.invariant-loop-row
invariant-loop-row l = Ran (column_at l.n l.col l.p l.f_perturbed l.f_origin) (Square l.n) 0 l.n l.row l.initial.jac
    l.jac
