-- `is_not_finite` meets its contract: what lies between the two infinities is finite.
use mathlib.Core.Path.{◌≡◌, refl}
use mathlib.Core.Bool.{true, false, not, ◌&&◌}
use lib.Ieee.{Float, nan, inf, fin, lt, div, neg, of_bits}
use Rattle.words.specs.Words.{◌⊘◌}
use Rattle.words.specs.Constants.{«0·0», «1·0»}
use Rattle.opening.specs.Rows.{not_finite}
use Rattle.opening.proofs.parts.is_not_finite.Goals as goal

between : (x : Float) → not (lt (neg «1·0» ⊘ «0·0») x && lt x («1·0» ⊘ «0·0»)) ≡ not_finite x
unfolding lt div neg of_bits
between nan = refl
between (inf true) = refl
between (inf false) = refl
between (fin s m e) = refl

pub returns : goal.returns
returns c = between _
