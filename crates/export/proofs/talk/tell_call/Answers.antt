-- `tell_call` meets its contract.
use mathlib.Core.Path.{ap, ◌∙◌}
use Rattle.radau_core.specs.Places.{words_of, doubles_of}
use Rattle.export.specs.Talk.{crossed}
use Rattle.export.proofs.talk.tell_call.Goals as goal

pub returns : goal.returns
returns c = λ i.
    crossed 0 ((c.words_of.ensures ∙ ap words_of c.run_at-run.ensures) i)
    ((c.doubles_of.ensures ∙ ap doubles_of c.run_at-run.ensures) i)
    (c.tell.ensures i) (c.tell_points.ensures i)
