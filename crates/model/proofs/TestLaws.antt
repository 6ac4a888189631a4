-- What the tests before the work show, and when they let it begin.
use Prim.Native.Nat.{ℕ, zero, suc, ◌*◌, ◌/◌, ◌≤◌, ◌<◌}
use mathlib.Core.Bool.{Bool, true, false, ◌&&◌, ◌||◌}
use mathlib.Core.Path.{◌≡◌, refl, sym, subst, ap, ◌∙◌}
use mathlib.Core.List.{List, [], ◌∷◌}
use native.Mathlib.Numerals.{add-one}
use native.Mathlib.Omega.{arith}
use lib.Dec.{T, eqb, leb, ltb}
use lib.ListN.{length, get_or, take}
use lib.Seq.{take-suc}
use borrow.Author.Count.{below_more}
use borrow.Author.Tests.{leb-true, eqb-true, ltb-false, eq-eqb, le-leb, le-ltb}
use Rattle.std.specs.List.{list_any}
use Rattle.std.proofs.lemmas.List.Folds.{list_any-append}
use Rattle.words.specs.Loop.{loop}
use Rattle.words.proofs.Loops.{loop-none, loop-more}
use Rattle.model.specs.Derivative.{lengths_fit, unknown_at, unknown}

pub both : (p q : Bool) → (p && q) ≡ true → (p ≡ true) × (q ≡ true)
both true q e = (refl, e)
both false q e = absurd (subst T (sym e) tt)

neither : (p q : Bool) → (p || q) ≡ false → (p ≡ false) × (q ≡ false)
neither true q e = absurd (subst T e tt)
neither false q e = (refl, e)

-- ---- lengths

pub record Fit (reactions y rates species dy : ℕ) : Type 0 where
  pub target : dy ≡ y
  pub enough-rates : reactions ≤ rates
  pub enough-species : 4 * reactions ≤ species

module _ (reactions y rates species dy : ℕ) where
  pub fit : lengths_fit reactions y rates species dy ≡ true → Fit reactions y rates species dy
  fit e =
      let p = both (eqb dy y && leb reactions rates) (leb reactions (species / 4)) e in
      let q = both (eqb dy y) (leb reactions rates) p.0 in
      let quarter : reactions ≤ species / 4 = leb-true reactions (species / 4) p.1 in
      record {
        target = eqb-true dy y q.0;
        enough-rates = leb-true reactions rates q.1;
        enough-species = omega arith;
      }

  pub fitting : Fit reactions y rates species dy → lengths_fit reactions y rates species dy ≡ true
  fitting f =
      let quarter : reactions ≤ species / 4 = omega arith in
      rw (eq-eqb dy y f.target, le-leb reactions rates f.enough-rates, le-leb reactions (species / 4) quarter)

-- ---- species

or-false : (b : Bool) → (b || false) ≡ b
or-false true = refl
or-false false = refl

module _ (n : ℕ) (species : List ℕ) where
  more : (count : ℕ) → unknown n species (suc count) ≡ (unknown n species count || ltb n (get_or species count 0))
  unfolding unknown unknown_at
  more count =
      ap (λ (h : ℕ). loop (unknown_at n species) 0 h false) (sym (add-one count))
      ∙ loop-more (unknown_at n species) 0 count false (omega arith)

  pub all_known : (count : ℕ) → unknown n species count ≡ false → (k : ℕ) → k < count → get_or species k 0 ≤ n
  all_known zero e k l = absurd (omega arith)
  all_known (suc count) e k l =
      let p = neither (unknown n species count) (ltb n (get_or species count 0)) (sym (more count) ∙ e) in
      below_more _ _ (all_known count p.0) (ltb-false n (get_or species count 0) p.1) k (omega arith)

  pub none-unknown : (count : ℕ) → ((k : ℕ) → k < count → get_or species k 0 ≤ n) → unknown n species count ≡ false
  unfolding unknown
  none-unknown zero known = loop-none (unknown_at n species) 0 false
  none-unknown (suc count) known =
      more count
      ∙ ap (λ (b : Bool). b || ltb n (get_or species count 0)) (none-unknown count (λ k l. known k (omega arith)))
      ∙ le-ltb n (get_or species count 0) (known count (omega arith))

  -- the library's test of the first numbers
  pub unknown_is : (count : ℕ) → count ≤ length species
      → list_any (λ s. ltb n s) (take count species) ≡ unknown n species count
  unfolding unknown
  unknown_is zero h = sym (loop-none (unknown_at n species) 0 false)
  unknown_is (suc count) h =
      let last = get_or species count 0 in
      ap (list_any (λ s. ltb n s)) (take-suc species count 0 (omega arith))
      ∙ list_any-append (λ s. ltb n s) (take count species) (last ∷ [])
      ∙ rw (unknown_is count (omega arith)) (ap (λ (b : Bool). unknown n species count || b) (or-false (ltb n last)))
      ∙ sym (more count)

  pub none_above : (count : ℕ) → count ≤ length species → list_any (λ s. ltb n s) (take count species) ≡ false
      → (k : ℕ) → k < count → get_or species k 0 ≤ n
  none_above count h e = all_known count (sym (unknown_is count h) ∙ e)
