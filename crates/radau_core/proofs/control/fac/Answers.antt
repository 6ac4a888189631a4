-- `fac` meets its contract.
use Rattle.solve_blocks.specs.Judge.{fac_of}
use Rattle.radau_core.proofs.control.fac.Goals as goal

pub returns : goal.returns
unfolding fac_of
returns c = rw (c.min.ensures, c.as_float.ensures, c.as_float-rounds.ensures)
