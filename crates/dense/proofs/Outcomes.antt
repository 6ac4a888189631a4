-- When `interpolate` refuses, what it leaves as it was, and what each amount is, by its definition: the proofs of
-- Theorems.antt.
use Prim.Native.Nat.{ℕ, ◌/◌, ◌≤◌, ◌<◌}
use mathlib.Core.Path.{◌≡◌, refl, ap, ◌∙◌}
use mathlib.Core.List.{List}
use mathlib.Core.Logic.{◌↔◌}
use native.Mathlib.Decide.{dec_lt}
use native.Mathlib.Omega.{arith}
use lib.Dec.{ltb}
use lib.ListN.{length}
use lib.Ieee.{Float, nan}
use borrow.Author.Tests.{lt-ltb, le-ltb}
use Rattle.words.specs.Words.{◌!◌}
use Rattle.words.specs.Loop.{loop}
use Rattle.words.proofs.Branch.{pick_yes, pick_no, pick_all}
use Rattle.std.specs.Prelude.{Ok, Err}
use Rattle.dense.specs.declared.answers.InterpolationError.TheVariants.{ShortTarget}
use Rattle.dense.specs.Answers.{Interpolation, interpolation, interpolated_number}
use Rattle.dense.specs.Interpolate.{place_of, amount_of, interpolate_at, interpolate_of}
use Rattle.dense.proofs.Filling.{filled-length, filled-rest, filled-place}

module _ (xi : Float) (yi cont : List Float) (xold h : Float) where
  -- ---- what the statements speak of: the outcome, the number of amounts, and each amount

  abbrev outcome : Interpolation
  outcome = interpolate_of xi yi cont xold h

  abbrev count : ℕ
  count = length cont / 4

  abbrev amount : ℕ → Float
  amount = amount_of (place_of xi xold h) count cont

  -- ---- the two ways out

  refusal : length yi < count → outcome ≡ interpolation (Err ShortTarget) yi
  unfolding interpolate_of
  refusal p = pick_yes _ _ (lt-ltb _ _ p)

  work : count ≤ length yi
      → outcome ≡ interpolation (Ok tt) (loop (interpolate_at (place_of xi xold h) count cont) 0 count yi)
  unfolding interpolate_of
  work p = pick_no _ _ (le-ltb _ _ p)

  -- ---- what is promised

  pub done-proof : count ≤ length yi → outcome.answer ≡ Ok tt
  done-proof p = ap (λ (o : Interpolation). o.answer) (work p)

  pub refused-exactly-proof : (interpolated_number outcome.answer ≡ 19) ↔ (length yi < count)
  refused-exactly-proof =
      (λ e. by e (dec_lt (length yi) count), λ p. ap (λ (o : Interpolation). interpolated_number o.answer) (refusal p))
    where
      by : interpolated_number outcome.answer ≡ 19 → Dec (length yi < count) → length yi < count
      by e (yes p) = p
      by e (no p) =
          let zero : interpolated_number outcome.answer
          ≡ 0 = ap (λ (o : Interpolation). interpolated_number o.answer) (work (omega arith)) in
          absurd (omega arith)

  pub refused-kept-proof : length yi < count → outcome.yi ≡ yi
  refused-kept-proof p = ap (λ (o : Interpolation). o.yi) (refusal p)

  pub length-kept-proof : length outcome.yi ≡ length yi
  unfolding interpolate_of interpolate_at
  length-kept-proof =
      pick_all (λ (o : Interpolation). length o.yi ≡ length yi) (ltb (length yi) count) _ _ (λ _. refl)
      (λ _. filled-length amount yi count)

  pub rest-kept-proof : (k : ℕ) → count ≤ k → outcome.yi ! k ≡ yi ! k
  unfolding interpolate_of interpolate_at
  rest-kept-proof k p =
      pick_all (λ (o : Interpolation). o.yi ! k ≡ yi ! k) (ltb (length yi) count) _ _ (λ _. refl)
      (λ _. filled-rest amount yi nan count k p)

  pub amounts-written-proof : (k : ℕ) → k < count → count ≤ length yi → outcome.yi ! k ≡ amount k
  unfolding interpolate_at
  amounts-written-proof k p q =
      ap (λ (o : Interpolation). o.yi ! k) (work q) ∙ filled-place amount yi nan count k p q
