-- The ways out of asking, one law for each.
use mathlib.Core.Path.{◌≡◌, refl, sym, ap, ◌∙◌}
use mathlib.Core.Bool.{true, false, not}
use mathlib.Core.List.{List}
use lib.ListN.{length}
use lib.Ieee.{Float}
use Rattle.std.specs.Prelude.{ℕ, Option, Err}
use Rattle.words.proofs.Branch.{yes, no}
use Rattle.shelf.specs.declared.answers.Shelf.{Shelf}
use Rattle.shelf.specs.declared.answers.ShelfError.TheVariants as shelf_error
use Rattle.shelf.specs.Shelf.{kept_of}
use Rattle.shelf.specs.Answers.{Asked, asked}
use Rattle.shelf.specs.Refusals.{room_fits, shelf_fits}
use Rattle.shelf.specs.Ask.{answer_of, ask_of}
use Rattle.shelf.specs.Finding.{found_from}
use Rattle.shelf.proofs.FindLaws.{answer_at, found-answers}

module _ (s : Shelf) (x : Float) (target cs es : List Float) where
  abbrev pub outcome : Asked
  outcome = ask_of s x target cs es

  pub ask-narrow : room_fits (length target) (length cs) (length es) ≡ false
      → asked (Err shelf_error.Length) target ≡ outcome
  unfolding ask_of
  ask-narrow e = yes _ _ _ (ap not e) refl

  module _ (wide : room_fits (length target) (length cs) (length es) ≡ true) where
    pub ask-unfit : shelf_fits s ≡ false → asked (Err shelf_error.State) target ≡ outcome
    unfolding ask_of
    ask-unfit e = no _ _ _ (ap not wide) (yes _ _ _ (ap not e) refl)

    module _ (fit : shelf_fits s ≡ true) where
      pub ask-looked : {a : Asked} → a ≡ answer_of x target (kept_of s (length target) cs es) → a ≡ outcome
      unfolding ask_of
      ask-looked e = no _ _ _ (ap not wide) (no _ _ _ (ap not fit) e)

      pub ask-found : (f : Option ℕ) → f ≡ found_from x es s.place s.steps → {a : Asked}
          → a ≡ answer_at x target (length target) cs es f → a ≡ outcome
      ask-found f e g =
          ask-looked
          (g ∙ ap (answer_at x target (length target) cs es) e
          ∙ sym (found-answers x target (length target) cs es s.steps s.place))
