-- The loop of src/parts.rt, with the one form of its invariant: a search for an entry with a property.
--     Searched bad xs i     no entry before i has the property
use Prim.Native.Nat.{ℕ, ◌+◌, ◌≤◌, ◌<◌}
use mathlib.Core.Path.{◌≡◌, refl, sym, ap, ◌∙◌}
use mathlib.Core.Bool.{Bool, true, false}
use mathlib.Core.List.{List, ◌∷◌}
use native.Mathlib.Omega.{arith}
use lib.ListN.{length}
use lib.Ieee.{Float}
use borrow.Author.Count.{below_more}
use Rattle.words.specs.Words.{◌!◌}
use borrow.Author.Tests.{lt-ltb, le-ltb}
use Rattle.std.specs.Prelude.{Option, Some, None, Err}
use Rattle.words.specs.Loop.{pick}
use Rattle.words.proofs.Branch.{pick_yes, pick_no}
use Rattle.state.specs.declared.talk.Refusal.{Refusal}
use Rattle.state.specs.Talk.{Verdict}
use Rattle.opening.specs.Rows.{Test, test, verdict_of, place_of, some, first_of}
use Rattle.opening.proofs.RowLaws.{place-only, refused-by, passed-by}

none-some : {x : ℕ} → ◌≡◌ {A = Option ℕ} None (Some x) → ⊥
none-some e = let z : ◌≡◌ {A = ℕ} 0 1 = cc in omega arith

pub record Searched (bad : Float → Bool) (xs : List Float) (i : ℕ) : Type 0 where
  pub within : i ≤ length xs
  pub lacking : (k : ℕ) → k < i → bad (xs ! k) ≡ false

module _ {bad : Float → Bool} {xs : List Float} where
  pub searching : Searched bad xs 0
  searching = record { within = omega arith; lacking = λ k l. absurd (omega arith) }

  module _ {i : ℕ} (s : Searched bad xs i) where
    pub passed : i < length xs → bad (xs ! i) ≡ false → Searched bad xs (i + 1)
    passed l h = record {
      within = omega arith;
      lacking = below_more (λ (k : ℕ). bad (xs ! k) ≡ false) i s.lacking h;
    }

    pub found : i < length xs → bad (xs ! i) ≡ true → Some i ≡ first_of bad xs
    unfolding first_of
    found l h =
        let e : i ≡ place_of bad xs =
        place-only bad xs i (record { within = s.within; earlier = s.lacking; there = λ b. h }) in
        ap Some e ∙ sym (pick_yes _ _ (lt-ltb _ _ (omega (arith, e, l))))

    pub searched : length xs ≤ i → None ≡ first_of bad xs
    unfolding first_of
    searched l =
        let e : i ≡ place_of bad xs =
        place-only bad xs i
        (record { within = s.within; earlier = s.lacking; there = λ b. absurd (omega arith) }) in
        sym (pick_no _ _ (le-ltb _ _ (omega (arith, e, l))))

-- what a search says of the row that it settles
module _ (bad : Float → Bool) (xs : List Float) {found : Option ℕ} (e : found ≡ first_of bad xs) where
  some-if : {p : ℕ} → found ≡ Some p → (some bad xs ≡ true) × (p ≡ place_of bad xs)
  unfolding first_of pick
  some-if {p} s = by (some bad xs) refl (sym e ∙ s)
    where
      by : (b : Bool) → some bad xs ≡ b → pick b (Some (place_of bad xs)) None ≡ Some p
          → (some bad xs ≡ true) × (p ≡ place_of bad xs)
      by true h q = (h, let s : place_of bad xs ≡ p = cc in sym s)
      by false h q = absurd (none-some q)

  none-if : found ≡ None → some bad xs ≡ false
  unfolding first_of pick
  none-if s = by (some bad xs) refl (sym e ∙ s)
    where
      by : (b : Bool) → some bad xs ≡ b → pick b (Some (place_of bad xs)) None ≡ None → some bad xs ≡ false
      by true h q = absurd (none-some (sym q))
      by false h q = h

  pub row-found : (row : ℕ → Refusal) (us : List Test) {p : ℕ} → found ≡ Some p
      → Err (row p) ≡ verdict_of (test (some bad xs) (row (place_of bad xs)) ∷ us)
  row-found row us s =
      let f = some-if s in
      ap (λ (k : ℕ). Err (row k)) f.1 ∙ refused-by (row (place_of bad xs)) us f.0

  pub row-lacking : (r : Refusal) (us : List Test) {w : Verdict} → found ≡ None → w ≡ verdict_of us
      → w ≡ verdict_of (test (some bad xs) r ∷ us)
  row-lacking r us s f = passed-by r us (none-if s) f
