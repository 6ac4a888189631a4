-- Numbers by their kinds: tested one after the other, and written one behind the other.
use Prim.Native.Nat.{ℕ, zero, suc, ◌+◌, ◌≤◌, ◌<◌}
use mathlib.Core.Path.{◌≡◌, refl, sym, ap, ◌∙◌}
use mathlib.Core.Bool.{Bool, true, false}
use mathlib.Core.List.{List, [], ◌∷◌, ◌++◌, append_assoc}
use native.Mathlib.Numerals.{add-one}
use native.Mathlib.Omega.{arith}
use borrow.Author.Tests.{lt-ltb, le-ltb, ltb-true, ltb-false}
use lib.Dec.{ltb}
use lib.ListN.{length, get_or, take, drop, drop_of_length-le}
use Rattle.words.specs.Loop.{pick}
use Rattle.words.proofs.Branch.{pick_yes, pick_no, pick_all}
use Rattle.sheet.specs.declared.kind.Kind.{Kind}
use Rattle.sheet.specs.declared.kind.Phase.{Phase}
use Rattle.sheet.specs.Digits.{power, base_of, width_of, width_by, hex_of}
use Rattle.sheet.specs.declared.spelling.Notation.TheVariants.{Decimal, Hexadecimal}
use Rattle.forecast_text.specs.Printed.{numeral_of}
use Rattle.forecast_text.proofs.DigitLaws.{decimal-numeral}
use Rattle.sheet.specs.Kinds.{kind_of}
use Rattle.sheet.specs.Writes.{spell_of, Of, writes, Fit}
use Rattle.sheet.proofs.DigitsLaws.{drop_more}
use Rattle.sheet.proofs.Sheets.{kind-fine}
use Rattle.sheet_write.specs.Writer.{fit_of, tested}
use Rattle.std.proofs.Common.{Result, Ok, Err}
use Rattle.sheet_write.specs.declared.writing.WritingError.{WritingError}
use Rattle.sheet_write.specs.declared.writing.WritingError.TheVariants.{NoModel}

module _ (k : ℕ → Kind) where
  -- ---- a turn of the test

  module _ (us : List ℕ) (i : ℕ) where
    pub fit-below : i < length us → get_or us i 0 < (k i).low → fit_of k i (drop i us) ≡ false
    unfolding fit_of
    fit-below h l = rw (drop_more us i h) (pick_yes _ _ (lt-ltb _ _ l))

    pub fit-above : i < length us → (k i).low ≤ get_or us i 0 → (k i).high < get_or us i 0
        → fit_of k i (drop i us) ≡ false
    unfolding fit_of
    fit-above h l u = rw (drop_more us i h) (pick_no _ _ (le-ltb _ _ l) ∙ pick_yes _ _ (lt-ltb _ _ u))

    pub fit_on : i < length us → (k i).low ≤ get_or us i 0 → get_or us i 0 ≤ (k i).high
        → fit_of k (i + 1) (drop (i + 1) us) ≡ fit_of k i (drop i us)
    unfolding fit_of
    fit_on h l u = rw (drop_more us i h) (sym (pick_no _ _ (le-ltb _ _ l) ∙ pick_no _ _ (le-ltb _ _ u)))

    pub fit_all : length us ≤ i → fit_of k i (drop i us) ≡ true
    unfolding fit_of
    fit_all h = rw (drop_of_length-le us h)

  -- ---- what the test tells

  pub true-fit : (i : ℕ) (us : List ℕ) → fit_of k i us ≡ true → Fit k i us
  unfolding fit_of Fit
  true-fit i [] = λ e. tt
  true-fit i (v ∷ us) =
      pick_all (λ t. t ≡ true → Of (k i) v × Fit k (i + 1) us) (ltb v (k i).low) false _
      (λ l e. absurd (let z : ◌≡◌ {A = Bool} true false = sym e in let y : ⊥ = omega (arith, never z) in y))
      (λ l. pick_all (λ t. t ≡ true → Of (k i) v × Fit k (i + 1) us) (ltb (k i).high v) false _
      (λ u e. absurd (let z : ◌≡◌ {A = Bool} true false = sym e in let y : ⊥ = omega (arith, never z) in y))
      (λ u e. (record { low = ltb-false _ _ l; high = ltb-false _ _ u }, true-fit (i + 1) us e)))
    where
      never : ◌≡◌ {A = Bool} true false → ◌≡◌ {A = ℕ} 0 1
      never z = cc

  pub fit-true : (i : ℕ) (us : List ℕ) → Fit k i us → fit_of k i us ≡ true
  unfolding fit_of Fit
  fit-true i [] f = refl
  fit-true i (v ∷ us) f =
      pick_no _ _ (le-ltb _ _ f.0.low) ∙ pick_no _ _ (le-ltb _ _ f.0.high) ∙ fit-true (i + 1) us f.1

  -- ---- one number of them

  of_at : (us : List ℕ) (j i : ℕ) → Fit k j us → i < length us → Of (k (j + i)) (get_or us i 0)
  unfolding Fit
  of_at [] j i f h = absurd (let z : ⊥ = omega arith in z)
  of_at (v ∷ us) j zero f h = let e : j + 0 ≡ j = omega arith in rw e f.0
  of_at (v ∷ us) j (suc i) f h =
      let e : j + suc i ≡ j + 1 + i = omega arith in
      rw e (of_at us (j + 1) i f.1 (let z : i < length us = omega arith in z))

  pub fit_at : (us : List ℕ) (i : ℕ) → Fit k 0 us → i < length us → Of (k i) (get_or us i 0)
  fit_at us i f h = let e : 0 + i ≡ i = omega arith in rw e at (of_at us 0 i f h)

  abbrev pub number_with : ℕ → ℕ → List ℕ
  number_with i v = spell_of (k i) v ++ ((k i).mark ∷ [])

  writes_one : (us : List ℕ) (j i : ℕ) → i < length us
      → writes k j (take (suc i) us) ≡ writes k j (take i us) ++ number_with (j + i) (get_or us i 0)
  unfolding writes
  writes_one [] j i h = absurd (let z : ⊥ = omega arith in z)
  writes_one (v ∷ us) j zero h = let e : j + 0 ≡ j = omega arith in rw e
  writes_one (v ∷ us) j (suc i) h =
      let e : j + suc i ≡ j + 1 + i = omega arith in
      rw (e, writes_one us (j + 1) i (let z : i < length us = omega arith in z))
      (sym (append_assoc (spell_of (k j) v) ((k j).mark ∷ writes k (j + 1) (take i us))
      (number_with (j + 1 + i) (get_or us i 0))))

  pub writes_more : (us : List ℕ) (i : ℕ) → i < length us
      → writes k 0 (take (i + 1) us) ≡ writes k 0 (take i us) ++ number_with i (get_or us i 0)
  writes_more us i h =
      let e : 0 + i ≡ i = omega arith in
      rw (add-one) (writes_one us 0 i h ∙ ap (λ n. writes k 0 (take i us) ++ number_with n (get_or us i 0)) e)

-- ---- what the code tells of the test

pub tested-no : {b : Bool} → b ≡ false → Err NoModel ≡ tested b
unfolding tested
tested-no e = sym (pick_no _ _ e)

pub tested-yes : {b : Bool} → b ≡ true → Ok tt ≡ tested b
unfolding tested
tested-yes e = sym (pick_yes _ _ e)

pub passed : (b : Bool) {x : Result Unit WritingError} → x ≡ tested b → x ≡ Ok tt → b ≡ true
unfolding tested pick
passed true e f = refl
passed false e f = absurd (let q = sym e ∙ f in let z : ◌≡◌ {A = ℕ} 0 1 = cc in let y : ⊥ = omega arith in y)

pub refused : (b : Bool) {x : Result Unit WritingError} {y : WritingError} → x ≡ tested b → x ≡ Err y
    → (b ≡ false) × (y ≡ NoModel)
unfolding tested pick
refused true e f = absurd (let q = sym e ∙ f in let z : ◌≡◌ {A = ℕ} 0 1 = cc in let y : ⊥ = omega arith in y)
refused false e f = (refl, let q = sym e ∙ f in cc)

-- a number of its kind is spelled by its digits
pub kind-spells : (p : Phase) (species i v : ℕ) → species ≤ 32 → Of (kind_of p species i) v
    → v < power (base_of (kind_of p species i).notation) (width_by (kind_of p species i).notation v)
kind-spells p species i v h o = (kind-fine p species h i).bound v o.high

-- ---- as a text spells them

below-ten : (v : ℕ) → v < power 10 (width_of v) → v < 10000000000
unfolding width_of power
below-ten v =
    pick_all (λ n. v < power 10 n → v < 10000000000) (ltb v 10) 1 _ (λ e h. omega (arith, ltb-true v 10 e))
    (λ e. pick_all (λ n. v < power 10 n → v < 10000000000) (ltb v 100) 2 _ (λ e h. omega (arith, ltb-true v 100 e))
    (λ e. pick_all (λ n. v < power 10 n → v < 10000000000) (ltb v 1000) 3 _ (λ e h. omega (arith, ltb-true v 1000 e))
    (λ e. pick_all (λ n. v < power 10 n → v < 10000000000) (ltb v 10000) 4 _ (λ e h. omega (arith, ltb-true v 10000 e))
    (λ e. pick_all (λ n. v < power 10 n → v < 10000000000) (ltb v 100000) 5 _
    (λ e h. omega (arith, ltb-true v 100000 e))
    (λ e. pick_all (λ n. v < power 10 n → v < 10000000000) (ltb v 1000000) 6 _
    (λ e h. omega (arith, ltb-true v 1000000 e))
    (λ e. pick_all (λ n. v < power 10 n → v < 10000000000) (ltb v 10000000) 7 _
    (λ e h. omega (arith, ltb-true v 10000000 e))
    (λ e. pick_all (λ n. v < power 10 n → v < 10000000000) (ltb v 100000000) 8 _
    (λ e h. omega (arith, ltb-true v 100000000 e))
    (λ e. pick_all (λ n. v < power 10 n → v < 10000000000) (ltb v 1000000000) 9 10
    (λ e h. omega (arith, ltb-true v 1000000000 e)) (λ e h. h)))))))))

module _ (k : Kind) (v : ℕ) where
  pub decimal-spelled : k.notation ≡ Decimal → v < power (base_of k.notation) (width_by k.notation v)
      → numeral_of v ≡ spell_of k v
  unfolding spell_of base_of width_by
  decimal-spelled e h = rw e (sym (decimal-numeral v (below-ten v (rw e at h))))

  pub hexadecimal-spelled : k.notation ≡ Hexadecimal → hex_of v ≡ spell_of k v
  unfolding spell_of base_of width_by
  hexadecimal-spelled e = rw e refl
