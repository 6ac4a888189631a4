-- The place of the newest step that holds x: one step looked at, and what it means for the list of steps.
use Prim.Native.Nat.{ℕ, zero, suc, ◌+◌, ◌-◌, ◌*◌, ◌≤◌, ◌<◌}
use mathlib.Core.Path.{◌≡◌, refl, sym, ap, ◌∙◌}
use mathlib.Core.Bool.{Bool, true, false}
use mathlib.Core.List.{List}
use native.Mathlib.Omega.{arith}
use lib.ListN.{take, drop}
use lib.Ieee.{Float}
use Rattle.std.specs.Prelude.{Option, Some, None, Ok, Err}
use Rattle.words.specs.Words.{◌!◌}
use Rattle.words.specs.Loop.{pick}
use Rattle.words.proofs.Branch.{pick_yes, pick_no, pick_all}
use Rattle.dense.specs.Interpolate.{interpolate_of}
use Rattle.shelf.specs.declared.answers.ShelfError.TheVariants as shelf_error
use Rattle.shelf.specs.Shelf.{holds, place_before, step_at, steps_before}
use Rattle.shelf.specs.Answers.{Asked, asked}
use Rattle.shelf.specs.Ask.{answer_of}
use Rattle.shelf.specs.Finding.{found_from}
use Rattle.shelf.proofs.Ring.{before-low}

-- a place that is found is one of the 48
abbrev pub Low : Option ℕ → Type 0
Low (Some place) = place ≤ 47
Low None = Unit

module _ (x : Float) (ends : List Float) where
  -- the step before a place holds x
  abbrev here : ℕ → Bool
  here place = holds x (ends ! (2 * place_before place)) (ends ! (2 * place_before place + 1))

  pub found_none : (place left : ℕ) → left ≤ 0 → None ≡ found_from x ends place left
  unfolding found_from
  found_none place zero l = refl
  found_none place (suc left) l = absurd (omega arith)

  pub found_here : (place left : ℕ) → 0 < left → here place ≡ true
      → Some (place_before place) ≡ found_from x ends place left
  unfolding found_from
  found_here place zero l e = absurd (omega arith)
  found_here place (suc left) l e = sym (pick_yes _ _ e)

  pub found-on : (place left : ℕ) → 0 < left → here place ≡ false
      → found_from x ends (place_before place) (left - 1) ≡ found_from x ends place left
  unfolding found_from
  found-on place zero l e = absurd (omega arith)
  found-on place (suc left) l e =
      let less : suc left - 1 ≡ left = omega arith in
      ap (found_from x ends (place_before place)) less ∙ sym (pick_no _ _ e)

  pub found-low : (count place : ℕ) → place ≤ 47 → Low (found_from x ends place count)
  unfolding found_from
  found-low zero place h = tt
  found-low (suc count) place h =
      pick_all Low (here place) (Some (place_before place)) (found_from x ends (place_before place) count)
      (λ _. before-low place h) (λ _. found-low count (place_before place) (before-low place h))

pick-through : {A B : Type 0} (f : A → B) (b : Bool) (u v : A) → pick b (f u) (f v) ≡ f (pick b u v)
unfolding pick
pick-through f true u v = refl
pick-through f false u v = refl

module _ (x : Float) (target : List Float) (n : ℕ) (coefficients ends : List Float) where
  abbrev pub answer_at : Option ℕ → Asked
  answer_at (Some place) =
      asked (Ok tt)
      (interpolate_of x target (take (4 * n) (drop (place * (4 * n)) coefficients)) (ends ! (2 * place))
      (ends ! (2 * place + 1))).yi
  answer_at None = asked (Err shelf_error.Point) target

  pub found-answers : (count place : ℕ)
      → answer_of x target (steps_before n coefficients ends place count) ≡ answer_at (found_from x ends place count)
  unfolding answer_of steps_before step_at found_from
  found-answers zero place = refl
  found-answers (suc count) place =
      ap (pick (here x ends place) (answer_at (Some (place_before place)))) (found-answers count (place_before place))
      ∙ pick-through answer_at (here x ends place) (Some (place_before place))
      (found_from x ends (place_before place) count)
