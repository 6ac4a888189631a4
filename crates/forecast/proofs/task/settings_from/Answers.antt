-- `settings_from` meets its contract.
use Rattle.forecast.proofs.task.settings_from.Goals as goal

pub returns : goal.returns
returns c = rw c.new-defaults.ensures
