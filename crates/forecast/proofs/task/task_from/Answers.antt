-- `task_from` meets its contract.
use Rattle.forecast.proofs.task.task_from.Goals as goal

pub returns : goal.returns
returns c = rw (
  c.settings_from.ensures,
  c.double.ensures,
  c.double-2.ensures,
  c.double-3.ensures,
  c.double-4.ensures,
)
