-- `two_thirds` meets its contract.
use mathlib.Core.Path.{ap, ◌∙◌}
use lib.Ieee.{Float}
use Rattle.scalar.specs.Products.{power_of}
use Rattle.scalar.proofs.powers.two_thirds.Goals as goal

pub returns : goal.returns
returns c = c.power.ensures ∙ ap (λ (x : Float). power_of 2 x) c.root.ensures
