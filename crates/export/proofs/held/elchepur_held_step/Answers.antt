-- `elchepur_held_step` meets its contract.
use mathlib.Core.Path.{ap, ◌∙◌}
use Rattle.state.specs.declared.run.Run.{Run}
use Rattle.export.proofs.held.elchepur_held_step.Goals as goal

pub returns : goal.returns
returns c = c.held_step.ensures ∙ ap (λ (r : Run). r.numbers.h) c.run_at-run.ensures
