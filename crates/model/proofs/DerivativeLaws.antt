-- When the work of `derivative` is done, that a refusal writes nothing, and that the target keeps its length: proofs of
-- Theorems.antt.
use Prim.Native.Nat.{ℕ, ◌*◌, ◌≤◌, ◌<◌}
use mathlib.Core.Path.{◌≡◌, refl, sym, ◌∙◌}
use mathlib.Core.Bool.{true}
use mathlib.Core.List.{List}
use lib.ListN.{length, get_or}
use lib.Ieee.{Float}
use Rattle.words.proofs.Branch.{pick_yes, pick_no, pick_all}
use Rattle.std.specs.Prelude.{Ok, Err}
use Rattle.model.specs.declared.answers.DerivativeError.TheVariants as derivative_error
use Rattle.model.specs.Answers.{Derivation, derivation}
use Rattle.model.specs.Model.{derivative_of}
use Rattle.model.specs.Derivative.{reactions_of, lengths_fit, unknown, derived_of}
use Rattle.model.proofs.ReactionLaws.{derivative-length}
use Rattle.model.proofs.TestLaws.{Fit, fit, fitting, none-unknown}

module _ (reactions : ℕ) (y rates : List Float) (species : List ℕ) (dy : List Float) where
  abbrev outcome : Derivation
  outcome = derived_of reactions y rates species dy

  abbrev fits : Type 0
  fits = Fit reactions (length y) (length rates) (length species) (length dy)

  pub accepted-proof : fits → ((k : ℕ) → k < 4 * reactions → get_or species k 0 ≤ length y)
      → outcome ≡ derivation (Ok tt) (derivative_of y (reactions_of rates species reactions))
  unfolding derived_of
  accepted-proof f known =
      pick_yes _ _ (fitting reactions (length y) (length rates) (length species) (length dy) f)
      ∙ pick_no _ _ (none-unknown (length y) species (4 * reactions) known)

  pub unknown-proof : fits → unknown (length y) species (4 * reactions) ≡ true
      → outcome ≡ derivation (Err derivative_error.Species) dy
  unfolding derived_of
  unknown-proof f e =
      pick_yes _ _ (fitting reactions (length y) (length rates) (length species) (length dy) f) ∙ pick_yes _ _ e

  pub refused-kept-proof : (outcome.answer ≡ Ok tt → ⊥) → outcome.dy ≡ dy
  unfolding derived_of
  refused-kept-proof =
      pick_all (λ (o : Derivation). (o.answer ≡ Ok tt → ⊥) → o.dy ≡ dy)
      (lengths_fit reactions (length y) (length rates) (length species) (length dy)) _ _
      (λ _. pick_all (λ (o : Derivation). (o.answer ≡ Ok tt → ⊥) → o.dy ≡ dy)
      (unknown (length y) species (4 * reactions)) _ _ (λ _ _. refl) (λ _ refused. absurd (refused refl)))
      (λ _ _. refl)

  pub length-kept-proof : length outcome.dy ≡ length dy
  unfolding derived_of
  length-kept-proof =
      pick_all (λ (o : Derivation). length o.dy ≡ length dy)
      (lengths_fit reactions (length y) (length rates) (length species) (length dy)) _ _
      (λ e. pick_all (λ (o : Derivation). length o.dy ≡ length dy)
      (unknown (length y) species (4 * reactions)) _ _ (λ _. refl)
      (λ _. derivative-length y (reactions_of rates species reactions)
      ∙ sym (fit reactions (length y) (length rates) (length species) (length dy) e).target))
      (λ _. refl)
