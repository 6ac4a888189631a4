-- `weighted` meets its contract: its two divisions are the definition's.
use Rattle.solve_blocks.specs.Scale.{weighted_of}
use Rattle.radau_core.proofs.scale.weighted.Goals as goal

pub returns : goal.returns
unfolding weighted_of
returns c = rw (
  c.divide-2.ensures,
  c.power.ensures,
  c.divide.ensures,
)
