-- Each contract settles its call: it asks nothing, and two outcomes that it allows for one input are the same.
use mathlib.Core.Path.{refl}
use Rattle.words.specs.Contract.{Settles}
use Rattle.words.proofs.OneOutcome.{one-result}
use Rattle.forecast.proofs.Theorems.{one-forecast}
use Rattle.forecast.proofs.bytes.forecast as forecast
use Rattle.forecast.proofs.task.amounts_from as amounts_from
use Rattle.forecast.proofs.task.rates_from as rates_from
use Rattle.forecast.proofs.task.task_from as task_from

pub forecast-once : Settles forecast.Kinds.ps forecast.Kinds.r forecast.Reads.Asked forecast.Reads.Post
forecast-once κs a = (tt, λ o p. λ e f. one-result o.1 (one-forecast _ _ _ e f) refl)

pub amounts-from-once :
    Settles amounts_from.Kinds.ps amounts_from.Kinds.r amounts_from.Reads.Asked amounts_from.Reads.Post
amounts-from-once κs a = (tt, λ o p. one-result o.1)

pub rates-from-once : Settles rates_from.Kinds.ps rates_from.Kinds.r rates_from.Reads.Asked rates_from.Reads.Post
rates-from-once κs a = (tt, λ o p. one-result o.1)

pub task-from-once : Settles task_from.Kinds.ps task_from.Kinds.r task_from.Reads.Asked task_from.Reads.Post
task-from-once κs a = (tt, λ o p. one-result o.1)
