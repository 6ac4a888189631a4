-- `defect` meets its contract.
use Rattle.solve_blocks.specs.Estimate.{defect_of}
use Rattle.radau_core.proofs.estimate.defect.Goals as goal

pub returns : goal.returns
unfolding defect_of
returns c = c.defect_by.ensures
