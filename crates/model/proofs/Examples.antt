-- One case of each way out of `derivative`, by computation. (01's P11 stands in the crate `examples`.)
use mathlib.Core.Path.{◌≡◌, refl}
use mathlib.Core.List.{[], ◌∷◌}
use lib.Ieee.{Float, of_bits}
use Rattle.words.specs.Words.{double}
use Rattle.words.specs.Loop.{loop, pick}
use Rattle.state.specs.Memory.{zeros}
use Rattle.std.specs.Prelude.{Ok, Err}
use Rattle.model.specs.declared.answers.DerivativeError.TheVariants as derivative_error
use Rattle.model.specs.Answers.{derivation}
use Rattle.model.specs.Model.{derivative_of}
use Rattle.model.specs.Derivative.{unknown_at, unknown, derived_of}

abbrev one : Float
one = double 0x3ff0_0000_0000_0000

-- a target that is shorter than the amounts, fewer rates than reactions, and three numbers of species for
-- a reaction that has four
pub short-target : derived_of 0 (one ∷ []) [] [] [] ≡ derivation (Err derivative_error.Length) []
unfolding derived_of pick
short-target = refl

pub short-rates : derived_of 1 (one ∷ []) [] (0 ∷ 0 ∷ 0 ∷ 0 ∷ []) (one ∷ [])
    ≡ derivation (Err derivative_error.Length) (one ∷ [])
unfolding derived_of pick
short-rates = refl

pub short-species : derived_of 1 (one ∷ []) (one ∷ []) (0 ∷ 0 ∷ 0 ∷ []) (one ∷ [])
    ≡ derivation (Err derivative_error.Length) (one ∷ [])
unfolding derived_of pick
short-species = refl

-- a last product that is no species
pub unknown-product : derived_of 1 (one ∷ []) (one ∷ []) (1 ∷ 0 ∷ 1 ∷ 2 ∷ []) (one ∷ [])
    ≡ derivation (Err derivative_error.Species) (one ∷ [])
unfolding derived_of unknown unknown_at loop pick
unknown-product = refl

-- what lies past the reactions isn't looked at; with none of them the derivative is +0
pub no-reactions : derived_of 0 (one ∷ []) (one ∷ []) (9 ∷ 9 ∷ 9 ∷ 9 ∷ []) (one ∷ [])
    ≡ derivation (Ok tt) (double 0 ∷ [])
unfolding derived_of derivative_of zeros unknown unknown_at loop pick of_bits
no-reactions = refl
