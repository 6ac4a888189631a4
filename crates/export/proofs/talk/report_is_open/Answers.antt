-- `report_is_open` meets its contract.
use mathlib.Core.Path.{ap}
use Rattle.opening.specs.declared.admission.Asking.{Asking}
use Rattle.export.proofs.talk.report_is_open.Goals as goal

pub returns : goal.returns
returns c = ap (λ (a : Asking). a.report) c.asking_at-asked.ensures
