-- `solve_systems` meets its contract.
use Rattle.solve_blocks.specs.Newton.{solved_of}
use Rattle.radau_core.proofs.newton.solve_systems.Goals as goal

pub returns : goal.returns
unfolding solved_of
returns c = rw (
  ← c.lin_solve.ensures,
  ← c.lin_solve_complex.ensures,
)
