-- The laws of a branch: which side it takes, and what holds of both sides holds of it.
use mathlib.Core.Path.{◌≡◌, refl, sym, ap, ◌∙◌}
use mathlib.Core.Bool.{Bool, true, false}
use Rattle.words.specs.Loop.{pick}

module _ {A : Type 0} {b : Bool} (x y : A) where
  pub pick_yes : b ≡ true → pick b x y ≡ x
  unfolding pick
  pick_yes p = ap (λ (t : Bool). pick t x y) p

  pub pick_no : b ≡ false → pick b x y ≡ y
  unfolding pick
  pick_no p = ap (λ (t : Bool). pick t x y) p

-- the code's branch that was taken, or left, is the definition's
module _ {A : Type 0} (b : Bool) (x y : A) {s : A} where
  pub yes : b ≡ true → s ≡ x → s ≡ pick b x y
  yes p q = q ∙ sym (pick_yes x y p)

  pub no : b ≡ false → s ≡ y → s ≡ pick b x y
  no p q = q ∙ sym (pick_no x y p)

pub pick_all : {A : Type 0} (P : A → Type 0) (b : Bool) (x y : A) → (b ≡ true → P x)
    → (b ≡ false → P y) → P (pick b x y)
unfolding pick
pick_all P true x y p q = p refl
pick_all P false x y p q = q refl
