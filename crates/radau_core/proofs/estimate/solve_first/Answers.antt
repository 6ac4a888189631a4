-- `solve_first` meets its contract: the first part of cont is lent, the rest stays.
use mathlib.Core.Path.{ap}
use mathlib.Core.List.{List}
use native.Mathlib.Omega.{arith}
use mathlib.Core.List.{◌++◌}
use lib.ListN.{drop, length-take}
use lib.Ieee.{Float}
use Rattle.matrix.specs.Answers.{Solution}
use Rattle.solve_blocks.specs.Estimate.{solved_first}
use Rattle.radau_core.proofs.estimate.solve_first.Goals as goal

pub slice_bounds-lin_solve-end-2 : goal.slice_bounds-lin_solve-end-2
slice_bounds-lin_solve-end-2 c = simp length-take (omega arith)

pub returns : goal.returns
unfolding solved_first
returns c = ap (λ (s : Solution (List Float)). s.b ++ drop c.args.n c.args.cont.now)
    c.lin_solve.ensures
