-- `run_at` meets its contract.
use Rattle.radau_core.proofs.pack.run_at.Goals as goal

pub returns : goal.returns
returns c = rw (
  c.settings_at.ensures,
  c.shape_at.ensures,
  c.fixed_at.ensures,
  c.counts_at.ensures,
  c.control_at.ensures,
  c.numbers_at.ensures,
  c.stage_at.ensures,
  c.notes_at.ensures,
)
