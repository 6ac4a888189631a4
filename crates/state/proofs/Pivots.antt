-- No pivot is stray where each of the first n - 1 is a row (`rows-no-stray`), and only there (`all-rows`): so a row may
-- be stored, and where all are 0 none is stray. Past the list's end none is stray (`past_end`); at the order 0 there is
-- none to look at (`no_row`).
use Prim.Native.Nat.{ℕ, zero, suc, ◌+◌, ◌-◌, ◌≤◌, ◌<◌}
use mathlib.Core.Bool.{Bool, true, false, ◌||◌}
use mathlib.Core.Path.{◌≡◌, refl, sym, subst, ap, ◌∙◌}
use mathlib.Core.List.{List, [], ◌∷◌}
use native.Mathlib.Numerals.{add-one}
use native.Mathlib.Omega.{arith}
use lib.Dec.{T, leb}
use lib.ListN.{length, get_or, set, get_or-replicate, get_or-eq_default}
use borrow.Author.Count.{below_more}
use borrow.Author.Tests.{leb-false, lt-leb}
use Rattle.words.specs.Loop.{loop}
use Rattle.words.proofs.Loops.{loop-none, loop-more}
use Rattle.state.specs.Memory.{noughts}
use Rattle.state.specs.Pivots.{stray_at, stray}

neither : (x y : Bool) → (x || y) ≡ false → (x ≡ false) × (y ≡ false)
neither true y e = absurd (subst T e tt)
neither false y e = (refl, e)

stays : (x y : Bool) → y ≡ false → (x || y) ≡ x
stays true y e = refl
stays false y e = e

module _ (n : ℕ) (ip : List ℕ) where
  -- the first h pivots are rows
  abbrev Rows : ℕ → Type 0
  Rows h = (k : ℕ) → k < h → get_or ip k 0 < n

  more : (h : ℕ) → loop (stray_at n ip) 0 (suc h) false ≡ (loop (stray_at n ip) 0 h false || leb n (get_or ip h 0))
  unfolding stray_at
  more h =
      ap (λ (j : ℕ). loop (stray_at n ip) 0 j false) (sym (add-one h)) ∙ loop-more (stray_at n ip) 0 h false
      (omega arith)

  none : (h : ℕ) → loop (stray_at n ip) 0 h false ≡ false → Rows h
  none zero e k l = absurd (omega arith)
  none (suc h) e k l =
      let p = neither (loop (stray_at n ip) 0 h false) (leb n (get_or ip h 0)) (sym (more h) ∙ e) in
      below_more _ _ (none h p.0) (leb-false n (get_or ip h 0) p.1) k (omega arith)

  every : (h : ℕ) → Rows h → loop (stray_at n ip) 0 h false ≡ false
  every zero rows = loop-none (stray_at n ip) 0 false
  every (suc h) rows =
      more h ∙ stays (loop (stray_at n ip) 0 h false) _ (lt-leb n (get_or ip h 0) (rows h (omega arith)))
      ∙ every h (λ k l. rows k (omega arith))

  pub all-rows : stray n ip ≡ false → Rows (n - 1)
  unfolding stray
  all-rows e = none (n - 1) e

  pub rows-no-stray : Rows (n - 1) → stray n ip ≡ false
  unfolding stray
  rows-no-stray rows = every (n - 1) rows

  past-end-part : 1 ≤ n → (d : ℕ)
      → loop (stray_at n ip) 0 (length ip) false ≡ loop (stray_at n ip) 0 (length ip + d) false
  past-end-part h zero =
      let e : length ip ≡ length ip + 0 = omega arith in ap (λ (m : ℕ). loop (stray_at n ip) 0 m false) e
  past-end-part h (suc d) =
      let e : suc (length ip + d) ≡ length ip + suc d = omega arith in
      let z : get_or ip (length ip + d) 0 ≡ 0 = get_or-eq_default ip 0 (omega arith) in
      past-end-part h d
      ∙ sym (stays (loop (stray_at n ip) 0 (length ip + d) false) (leb n (get_or ip (length ip + d) 0))
      (ap (leb n) z ∙ lt-leb n 0 (omega arith)))
      ∙ sym (more (length ip + d)) ∙ ap (λ (m : ℕ). loop (stray_at n ip) 0 m false) e

  pub past_end : {r : Bool} → 1 ≤ n → length ip < n - 1 → r ≡ loop (stray_at n ip) 0 (length ip) false → r ≡ stray n ip
  unfolding stray
  past_end h l e =
      let s : length ip + (n - 1 - length ip) ≡ n - 1 = omega arith in
      e ∙ past-end-part h (n - 1 - length ip) ∙ ap (λ (m : ℕ). loop (stray_at n ip) 0 m false) s

  pub no_row : n ≡ 0 → false ≡ stray n ip
  unfolding stray
  no_row z =
      let e : n - 1 ≡ 0 = omega arith in
      sym (ap (λ (m : ℕ). loop (stray_at n ip) 0 m false) e ∙ loop-none (stray_at n ip) 0 false)

-- ---- what is stored

-- what is stored, or stood there
set-either : (P : ℕ → Type 0) (xs : List ℕ) (i j : ℕ) (x d : ℕ) → P x → P (get_or xs j d) → P (get_or (set xs i x) j d)
set-either P [] i j x d p q = q
set-either P (y ∷ xs) zero zero x d p q = p
set-either P (y ∷ xs) zero (suc j) x d p q = q
set-either P (y ∷ xs) (suc i) zero x d p q = q
set-either P (y ∷ xs) (suc i) (suc j) x d p q = set-either P xs i j x d p q

pub row-stored : (n : ℕ) (ip : List ℕ) (k m : ℕ) → m < n → stray n ip ≡ false → stray n (set ip k m) ≡ false
row-stored n ip k m l e =
    rows-no-stray n (set ip k m) (λ j b. set-either (λ (x : ℕ). x < n) ip k j m 0 l (all-rows n ip e j b))

pub noughts-no-stray : (n : ℕ) → stray n (noughts n) ≡ false
unfolding noughts
noughts-no-stray n = rows-no-stray n (noughts n) (λ k l. omega (arith, get_or-replicate {A = ℕ} n k 0 0 (omega arith)))
