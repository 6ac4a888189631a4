-- `elchepur_totals_fed` meets its contract.
use mathlib.Core.Path.{ap, ◌∙◌}
use Rattle.export_totals.specs.Record.{words_of}
use Rattle.export_totals.proofs.nights.elchepur_totals_fed.Goals as goal

pub returns : goal.returns
returns c = c.words_of.ensures ∙ ap words_of (rw c.night_from.ensures at c.fed-next.ensures)
