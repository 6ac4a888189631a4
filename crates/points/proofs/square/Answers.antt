-- `square` forms no product that is too large: there are at most 32 rows.
use Rattle.std.proofs.Common.{arith}
use Rattle.model_run.proofs.Room.{square-fits}
use Rattle.points.proofs.square.Goals as goal

pub overflow_mul-result : goal.overflow_mul-result
overflow_mul-result c = square-fits c.min-side.result (omega (arith, c.min-side.ensures))
