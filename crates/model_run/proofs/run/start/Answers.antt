-- `start` meets its contract: a task has room for at most 32 amounts.
use Rattle.model_run.proofs.Room.{square-fits}
use Rattle.model_run.proofs.run.start.Goals as goal

pub overflow_mul-n-2 : goal.overflow_mul-n-2
overflow_mul-n-2 c = square-fits c.room-n.result c.room-n.ensures.0
