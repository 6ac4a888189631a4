-- `floats_of` meets its contract: each entry by what its call says.
use mathlib.Core.List.{[], ◌∷◌}
use Rattle.export.proofs.defaults.floats_of.Goals as goal

pub returns : goal.returns
returns c = λ i.
    c.args.s.uround
    ∷ c.args.s.safety_factor
    ∷ c.args.s.scale_min
    ∷ c.args.s.scale_max
    ∷ c.unwrap_or.ensures i
    ∷ c.unwrap_or-2.ensures i
    ∷ c.unwrap_or-3.ensures i
    ∷ c.unwrap_or-4.ensures i
    ∷ []
