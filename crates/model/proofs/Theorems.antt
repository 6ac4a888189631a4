-- What a user learns of `derivative`, stated of its definition: in words, as a statement, and where it is proved.
use Prim.Native.Nat.{ℕ, ◌*◌, ◌≤◌, ◌<◌}
use mathlib.Core.Path.{◌≡◌}
use mathlib.Core.List.{List}
use lib.ListN.{length, get_or}
use lib.Ieee.{Float}
use Rattle.std.specs.Prelude.{Ok}
use Rattle.model.specs.Answers.{derivation}
use Rattle.model.specs.Model.{derivative_of}
use Rattle.model.specs.Derivative.{reactions_of, derived_of}
use Rattle.model.proofs.TestLaws.{Fit}
use Rattle.model.proofs.DerivativeLaws.{accepted-proof, refused-kept-proof, length-kept-proof}

module _ (reactions : ℕ) (y rates : List Float) (species : List ℕ) (dy : List Float) where
  -- Where lengths and species fit, as they do for every sheet that was read, nothing is refused.
  pub accepted : Fit reactions (length y) (length rates) (length species) (length dy)
      → ((k : ℕ) → k < 4 * reactions → get_or species k 0 ≤ length y)
      → derived_of reactions y rates species dy
      ≡ derivation (Ok tt) (derivative_of y (reactions_of rates species reactions))
  accepted = accepted-proof reactions y rates species dy

  -- What isn't done wrote nothing.
  pub refused-kept : ((derived_of reactions y rates species dy).answer ≡ Ok tt → ⊥)
      → (derived_of reactions y rates species dy).dy ≡ dy
  refused-kept = refused-kept-proof reactions y rates species dy

  -- A target keeps its length.
  pub length-kept : length (derived_of reactions y rates species dy).dy ≡ length dy
  length-kept = length-kept-proof reactions y rates species dy
