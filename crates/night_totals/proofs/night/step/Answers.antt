-- `step` meets its contract.
use Rattle.std.proofs.Common.{sym, ◌∙◌}
use Rattle.words.proofs.Branch.{no}
use Rattle.forecast_text.specs.Printed.{text}
use Rattle.night_totals.specs.Night.{step_of}
use Rattle.night_totals.proofs.night.step.Goals as goal

pub returns-in-Open : goal.returns-in-Open
unfolding step_of text
returns-in-Open c =
    no _ _ _ (sym c.full.ensures ∙ c.if-full.false) (rw c.in-Open.is (rw c.filled.ensures at c.judged.ensures))
