-- Which side a branch takes, past its log: the code's branch that was taken, or left, is the definition's, whose
-- events the code doesn't keep.
use mathlib.Core.Path.{◌≡◌, sym, ap, ◌∙◌}
use mathlib.Core.Bool.{Bool, true, false}
use Rattle.words.specs.Loop.{pick}
use Rattle.words.proofs.Branch.{pick_yes, pick_no}
use Rattle.solve_blocks.specs.Events.{Logged}

module _ {A : Type 0} {b : Bool} (x y : Logged A) {s : A} where
  pub core-yes : b ≡ true → s ≡ x.core → s ≡ (pick b x y).core
  core-yes p q = q ∙ ap (λ (l : Logged A). l.core) (sym (pick_yes x y p))

  pub core-no : b ≡ false → s ≡ y.core → s ≡ (pick b x y).core
  core-no p q = q ∙ ap (λ (l : Logged A). l.core) (sym (pick_no x y p))
