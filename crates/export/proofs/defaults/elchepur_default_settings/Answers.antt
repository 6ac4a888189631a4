-- `elchepur_default_settings` meets its contract: what it writes is made of the default settings.
use mathlib.Core.Path.{ap, ◌∙◌}
use Rattle.export.specs.Defaults.{numbers_of, floats_of}
use Rattle.export.proofs.defaults.elchepur_default_settings.Goals as goal

pub returns : goal.returns
returns c = (
  c.numbers_of.ensures ∙ ap numbers_of c.new-settings.ensures,
  c.floats_of.ensures ∙ ap floats_of c.new-settings.ensures,
)
