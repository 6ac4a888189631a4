-- Totals of no lines are neutral on either side; exchanged sides differ in the place alone; 28 and 26 exactly.
use Rattle.std.proofs.Common.{Ok}
use Rattle.std.proofs.Common.{◌≡◌, ℕ, ◌+◌, ◌≤◌, max, eqb, ltb, sym, refl, ap, ◌∙◌, arith, le-ltb, eqb-true}
use Rattle.words.specs.Loop.{pick}
use Rattle.words.proofs.Branch.{pick_yes, pick_no, pick_all}
use Rattle.night_totals.specs.Night.{no_totals}
use Rattle.night_totals.specs.declared.totals.Totals.{Totals}
use Rattle.night_totals.proofs.FormLaws.{split}
use Rattle.night_join.specs.Join.{runs_in, fit_totals, Fit, place_of_both, sum_totals, join_of, placeless, but_place}
use Rattle.night_join.proofs.JoinLaws.{good, fit, each, left-first, left-second, left-many, join-few}

-- ---- neutral

zero_of : (n most : ℕ) → n ≤ most → most ≡ 0 → n ≡ 0
zero_of n most h e = omega arith

pub no-lines-proof : (t : Totals) → Fit t → t.lines ≡ 0 → t ≡ no_totals
no-lines-proof t f e =
    let x = good t f in
    let r : runs_in t ≡ 0 = x.runs ∙ e in
    let o : t.counts.ode ≡ 0 = omega (arith, x.ode) in
    λ i.
    record {
      lines = e i;
      runs = record {
        status0 = zero_of t.runs.status0 (runs_in t) (omega arith) r i;
        status1 = zero_of t.runs.status1 (runs_in t) (omega arith) r i;
        status2 = zero_of t.runs.status2 (runs_in t) (omega arith) r i;
        status3 = zero_of t.runs.status3 (runs_in t) (omega arith) r i;
        status5 = zero_of t.runs.status5 (runs_in t) (omega arith) r i;
        status7 = zero_of t.runs.status7 (runs_in t) (omega arith) r i;
      };
      counts = record {
        accepted = (let z : t.counts.accepted ≡ 0 = omega (arith, x.accepted) in z) i;
        rejected = (let z : t.counts.rejected ≡ 0 = omega (arith, x.rejected) in z) i;
        total = (let z : t.counts.total ≡ 0 = omega (arith, x.total) in z) i;
        ode = o i;
        jac = (let z : t.counts.jac ≡ 0 = omega (arith, x.jac) in z) i;
        lu = (let z : t.counts.lu ≡ 0 = omega (arith, x.lu) in z) i;
      };
      largest = (let z : t.largest ≡ 0 = omega (arith, x.largest) in z) i;
      place = (let z : t.place ≡ 0 = omega (arith, x.place) in z) i;
    }

none-fit : Fit no_totals
none-fit =
    fit no_totals (record {
      lines = omega arith;
      runs = refl;
      accepted = omega arith;
      rejected = omega arith;
      total = omega arith;
      ode = omega arith;
      jac = omega arith;
      lu = omega arith;
      largest = omega arith;
      place = omega arith;
      somewhere = λ e. refl;
    })

module _ (t : Totals) (f : Fit t) where
  before : (n : ℕ) → 0 + n ≡ n
  before n = omega arith

  behind : (n : ℕ) → n + 0 ≡ n
  behind n = omega arith

  none_first : sum_totals no_totals t ≡ t
  unfolding sum_totals place_of_both
  none_first =
      let e : max 0 t.largest ≡ t.largest = omega arith in
      let p = pick_yes {b = eqb 0 0} t.place (pick (ltb 0 t.largest) (0 + t.place) 0) refl in
      λ i. each (λ field. before (field t) i) (e i) (p i)

  place-behind : place_of_both t no_totals ≡ t.place
  unfolding place_of_both
  place-behind =
      let x = good t f in
      pick_all (λ (p : ℕ). p ≡ t.place) (eqb t.lines 0) _ _
      (λ y. let z : t.lines ≡ 0 = eqb-true _ _ y in omega (arith, x.place))
      (λ y. pick_no _ _ (le-ltb t.largest 0 (omega arith)))

  none-second : sum_totals t no_totals ≡ t
  unfolding sum_totals
  none-second =
      let e : max t.largest 0 ≡ t.largest = omega arith in
      λ i. each (λ field. behind (field t) i) (e i) (place-behind i)

  both-sides : (join_of no_totals t ≡ Ok t) × (join_of t no_totals ≡ Ok t)
  both-sides =
      let x = good t f in (
        join-few no_totals t none-fit f (le-ltb 65535 (0 + t.lines) (omega (arith, x.lines)))
            ∙ ap Ok none_first,
        join-few t no_totals f none-fit (le-ltb 65535 (t.lines + 0) (omega (arith, x.lines)))
            ∙ ap Ok none-second,
      )

pub neutral-proof : (n t : Totals) → Fit n → n.lines ≡ 0 → Fit t
    → (join_of n t ≡ Ok t) × (join_of t n ≡ Ok t)
neutral-proof n t f e g = rw (no-lines-proof n f e) (both-sides t g)

-- ---- exchanged

module _ (a b : Totals) where
  swapped : (u v : ℕ) → u + v ≡ v + u
  swapped u v = omega arith

  sums-swapped : placeless (sum_totals a b) ≡ placeless (sum_totals b a)
  unfolding sum_totals
  sums-swapped =
      let e : max a.largest b.largest ≡ max b.largest a.largest = omega arith in
      λ i. each (λ field. swapped (field a) (field b) i) (e i) 0

pub exchanged-proof : (a b : Totals) → but_place (join_of a b) ≡ but_place (join_of b a)
unfolding but_place
exchanged-proof a b =
    split (fit_totals a)
    (λ f. split (fit_totals b)
    (λ g. split (ltb 65535 (a.lines + b.lines))
    (λ m. ap but_place (sym (left-many a b f g m)
    ∙ left-many b a g f (ap (ltb 65535) (swapped a b b.lines a.lines) ∙ m)))
    (λ m. ap but_place (join-few a b f g m) ∙ ap Ok (sums-swapped a b)
    ∙ sym (ap but_place (join-few b a g f (ap (ltb 65535) (swapped a b b.lines a.lines) ∙ m)))))
    (λ g. ap but_place (sym (left-second a b f g) ∙ left-first b a g)))
    (λ f. split (fit_totals b)
    (λ g. ap but_place (sym (left-first a b f) ∙ left-second b a g f))
    (λ g. ap but_place (sym (left-first a b f) ∙ left-first b a g)))
