-- `doubles_of` meets its contract.
use Rattle.radau_core.proofs.pack.doubles_of.Goals as goal

pub returns : goal.returns
returns c = rw (
  c.unwrap_or.ensures,
  c.unwrap_or-2.ensures,
  c.unwrap_or-3.ensures,
  c.unwrap_or-4.ensures,
  c.unwrap_or-5.ensures,
  c.rtol_value.ensures,
  c.atol_value.ensures,
  c.smallest_stride.ensures,
  c.largest_stride.ensures,
)
