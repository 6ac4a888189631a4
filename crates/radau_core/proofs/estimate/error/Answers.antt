-- `error` meets its contract.
use Rattle.solve_blocks.specs.Estimate.{error_of}
use Rattle.radau_core.proofs.estimate.error.Goals as goal

pub returns : goal.returns
unfolding error_of
returns c = rw (c.max.ensures, c.sqrt.ensures.0, c.as_float.ensures, c.error_sum-sum.ensures)
