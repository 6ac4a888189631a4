-- The place of the largest ode of totals that are joined. A side counts by its key: one more than its largest ode, and
-- 0 where it has no lines.
use Rattle.std.proofs.Common.{◌≡◌, ℕ, ◌+◌, ◌<◌, ◌≤◌, max, true, false, eqb, ltb, sym, ap, ◌∙◌, arith, ltb-false}
use Rattle.std.proofs.Common.{ltb-true, le-ltb, lt-ltb, ne_eqb, eqb-true}
use borrow.Author.Tests.{eqb-false}
use Rattle.words.specs.Loop.{pick}
use Rattle.words.proofs.Branch.{pick_yes, pick_no, pick_all}
use Rattle.night_totals.specs.declared.totals.Totals.{Totals}
use Rattle.night_totals.proofs.FormLaws.{split}
use Rattle.night_join.specs.Join.{place_of_both, sum_totals}
use Rattle.night_join.proofs.TestLaws.{ltb-by}
use Rattle.night_join.proofs.JoinLaws.{Good}

abbrev sign : ℕ → ℕ
sign lines = pick (eqb lines 0) 0 1

abbrev pub key : Totals → ℕ
key t = t.largest + sign t.lines

module _ (a b : Totals) (x : Good a) (y : Good b) where
  no-lines-first : eqb a.lines 0 ≡ true
      → b.place ≡ pick (ltb (key a) (key b)) (a.lines + b.place) a.place
  no-lines-first t =
      let z : a.lines ≡ 0 = eqb-true _ _ t in
      let s : sign a.lines ≡ 0 = pick_yes _ _ t in
      pick_all (λ (p : ℕ). b.place ≡ p) (ltb (key a) (key b)) _ _
      (λ u. omega arith)
      (λ u. let k : key b ≤ key a = ltb-false _ _ u in
      split (eqb b.lines 0)
      (λ v. let w : b.lines ≡ 0 = eqb-true _ _ v in omega (arith, x.place, y.place))
      (λ v. let w : sign b.lines ≡ 1 = pick_no _ _ v in absurd (omega (arith, x.largest, x.ode))))

  some-lines-first : eqb a.lines 0 ≡ false → ltb a.largest b.largest ≡ ltb (key a) (key b)
  some-lines-first t =
      let s : sign a.lines ≡ 1 = pick_no _ _ t in
      split (eqb b.lines 0)
      (λ v. let w : b.lines ≡ 0 = eqb-true _ _ v in
      let r : sign b.lines ≡ 0 = pick_yes _ _ v in
      ltb-by a.largest b.largest (key a) (key b)
      (λ l. absurd (omega (arith, y.largest, y.ode))) (λ l. omega arith))
      (λ v. let r : sign b.lines ≡ 1 = pick_no _ _ v in
      ltb-by a.largest b.largest (key a) (key b) (λ l. omega arith) (λ l. omega arith))

  pub place-by-key : place_of_both a b ≡ pick (ltb (key a) (key b)) (a.lines + b.place) a.place
  unfolding place_of_both
  place-by-key =
      split (eqb a.lines 0)
      (λ t. pick_yes _ _ t ∙ no-lines-first t)
      (λ t. pick_no _ _ t ∙ ap (λ c. pick c (a.lines + b.place) a.place) (some-lines-first t))

  pub key-sum : key (sum_totals a b) ≡ max (key a) (key b)
  unfolding sum_totals
  key-sum =
      split (eqb a.lines 0)
      (λ t. let z : a.lines ≡ 0 = eqb-true _ _ t in
      let s : sign a.lines ≡ 0 = pick_yes _ _ t in
      let e : sign (a.lines + b.lines) ≡ sign b.lines =
      ap sign (let q : a.lines + b.lines ≡ b.lines = omega arith in q) in
      omega (arith, x.largest, x.ode))
      (λ t. let z : a.lines ≡ 0 → ⊥ = eqb-false _ _ t in
      let s : sign a.lines ≡ 1 = pick_no _ _ t in
      let e : sign (a.lines + b.lines) ≡ 1 =
      pick_no _ _ (ne_eqb (a.lines + b.lines) 0 (λ q. z (let w : a.lines ≡ 0 = omega arith in w))) in
      split (eqb b.lines 0)
      (λ v. let w : b.lines ≡ 0 = eqb-true _ _ v in
      let r : sign b.lines ≡ 0 = pick_yes _ _ v in
      omega (arith, y.largest, y.ode))
      (λ v. let r : sign b.lines ≡ 1 = pick_no _ _ v in omega arith))

-- the first of the largest of three, from either side
module _ (k l m a b p q r : ℕ) where
  abbrev Same : Type 0
  Same =
      pick (ltb (max k l) m) (a + b + r) (pick (ltb k l) (a + q) p)
      ≡ pick (ltb k (max l m)) (a + pick (ltb l m) (b + r) q) p

  third : k < m → l < m → Same
  third h g =
      pick_yes _ _ (lt-ltb (max k l) m (omega arith))
      ∙ omega arith
      ∙ ap (λ n. a + n) (sym (pick_yes (b + r) q (lt-ltb l m g)))
      ∙ sym (pick_yes _ _ (lt-ltb k (max l m) (omega arith)))

  second : k < l → m ≤ l → Same
  second h g =
      pick_no _ _ (le-ltb (max k l) m (omega arith))
      ∙ pick_yes _ _ (lt-ltb k l h)
      ∙ ap (λ n. a + n) (sym (pick_no (b + r) q (le-ltb l m g)))
      ∙ sym (pick_yes _ _ (lt-ltb k (max l m) (omega arith)))

  first : l ≤ k → m ≤ k → Same
  first h g =
      pick_no _ _ (le-ltb (max k l) m (omega arith))
      ∙ pick_no _ _ (le-ltb k l h)
      ∙ sym (pick_no _ _ (le-ltb k (max l m) (omega arith)))

  pub place-assoc : Same
  place-assoc =
      split (ltb k l)
      (λ t. let h : k < l = ltb-true _ _ t in
      split (ltb l m)
      (λ u. let g : l < m = ltb-true _ _ u in third (let w : k < m = omega arith in w) g)
      (λ u. second h (ltb-false _ _ u)))
      (λ t. let h : l ≤ k = ltb-false _ _ t in
      split (ltb k m)
      (λ u. let g : k < m = ltb-true _ _ u in third g (let w : l < m = omega arith in w))
      (λ u. first h (ltb-false _ _ u)))
