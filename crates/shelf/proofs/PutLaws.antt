-- The ways out of putting a step on a shelf, one law for each.
use Prim.Native.Nat.{ℕ, ◌*◌, ◌/◌, ◌%◌}
use mathlib.Core.Path.{◌≡◌, refl, ap, ◌∙◌}
use mathlib.Core.Bool.{Bool, true, false, not, ◌&&◌}
use mathlib.Core.List.{List}
use native.Mathlib.Omega.{arith}
use lib.Dec.{eqb}
use lib.ListN.{length}
use lib.Ieee.{Float}
use borrow.Author.Tests.{eq-eqb, ne_eqb}
use Rattle.std.specs.Prelude.{Err}
use Rattle.words.proofs.Branch.{yes, no}
use Rattle.shelf.specs.declared.answers.Shelf.{Shelf}
use Rattle.shelf.specs.declared.answers.ShelfError.TheVariants as shelf_error
use Rattle.shelf.specs.Answers.{Placed, placed}
use Rattle.shelf.specs.Refusals.{room_fits, shelf_fits}
use Rattle.shelf.specs.Put.{put_at, put_of}

module _ (s : Shelf) (cont : List Float) (xold h : Float) (cs es : List Float) where
  abbrev pub outcome : Placed
  outcome = put_of s cont xold h cs es

  abbrev count : ℕ
  count = length cont / 4

  pub put-uneven : (length cont % 4 ≡ 0 → ⊥) → placed (Err shelf_error.Length) cs es ≡ outcome
  unfolding put_of
  put-uneven uneven =
      yes _ _ _
      (ap (λ (t : Bool). not (t && room_fits count (length cs) (length es)))
      (ne_eqb (length cont) (4 * count) (λ e. uneven (omega arith))))
      refl

  module _ (even : length cont % 4 ≡ 0) where
    fours : {b : Bool} → room_fits count (length cs) (length es) ≡ b
        → not (eqb (length cont) (4 * count) && room_fits count (length cs) (length es)) ≡ not b
    fours e =
        ap (λ (t : Bool). not (t && room_fits count (length cs) (length es)))
        (eq-eqb (length cont) (4 * count) (omega arith))
        ∙ ap not e

    pub put-narrow : room_fits count (length cs) (length es) ≡ false → placed (Err shelf_error.Length) cs es ≡ outcome
    unfolding put_of
    put-narrow e = yes _ _ _ (fours e) refl

    module _ (wide : room_fits count (length cs) (length es) ≡ true) where
      pub put-unfit : shelf_fits s ≡ false → placed (Err shelf_error.State) cs es ≡ outcome
      unfolding put_of
      put-unfit e = no _ _ _ (fours wide) (yes _ _ _ (ap not e) refl)

      pub put-done : shelf_fits s ≡ true → {x : Placed} → x ≡ put_at s cont xold h cs es → x ≡ outcome
      unfolding put_of
      put-done e d = no _ _ _ (fours wide) (no _ _ _ (ap not e) d)
