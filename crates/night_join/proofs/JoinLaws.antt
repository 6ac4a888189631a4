-- What fit totals have, and the laws of joining them.
use Rattle.std.proofs.Common.{Ok, Err, ◌||◌, ltb-true}
use Rattle.std.proofs.lemmas.Bool.{and_parts, and_from}
use Rattle.std.proofs.Common.{◌≡◌, ℕ, ◌+◌, ◌*◌, ◌^◌, ◌<◌, ◌≤◌, max, true, false, eqb, ltb, sym, ap, ◌∙◌}
use Rattle.std.proofs.Common.{mod-eq_of_lt, arith, ltb-false, eq-eqb, eqb-true, le-leb, leb-true}
use borrow.Author.Tests.{eqb-false}
use Rattle.words.specs.Loop.{pick}
use Rattle.words.proofs.Branch.{pick_yes, pick_no, pick_all}
use Rattle.night_totals.specs.Counts.{plus, counts_within}
use Rattle.night_totals.specs.declared.totals.Totals.{Totals}
use Rattle.night_totals.proofs.FormLaws.{split}
use Rattle.night_join.specs.declared.joining.JoinError.TheVariants as join_error
use Rattle.night_join.specs.Join.{runs_in, place_in, fit_totals, Fit}
use Rattle.night_join.specs.Join.{place_of_both, sum_totals, join_of}
use Rattle.night_join.specs.Words.{place_word, sum_words}

-- totals of what is made of each number that is added, with a largest and its place
abbrev pub each : ((Totals → ℕ) → ℕ) → ℕ → ℕ → Totals
each made largest place =
    record {
      lines = made (λ t. t.lines);
      runs = record {
        status0 = made (λ t. t.runs.status0);
        status1 = made (λ t. t.runs.status1);
        status2 = made (λ t. t.runs.status2);
        status3 = made (λ t. t.runs.status3);
        status5 = made (λ t. t.runs.status5);
        status7 = made (λ t. t.runs.status7);
      };
      counts = record {
        accepted = made (λ t. t.counts.accepted);
        rejected = made (λ t. t.counts.rejected);
        total = made (λ t. t.counts.total);
        ode = made (λ t. t.counts.ode);
        jac = made (λ t. t.counts.jac);
        lu = made (λ t. t.counts.lu);
      };
      largest = largest;
      place = place;
    }

-- ---- what fit totals have

pub record Good (t : Totals) : Type 0 where
  pub lines : t.lines ≤ 65535
  pub runs : runs_in t ≡ t.lines
  pub accepted : t.counts.accepted ≤ 10000000000 * t.lines
  pub rejected : t.counts.rejected ≤ 10000000000 * t.lines
  pub total : t.counts.total ≤ 10000000000 * t.lines
  pub ode : t.counts.ode ≤ 10000000000 * t.lines
  pub jac : t.counts.jac ≤ 10000000000 * t.lines
  pub lu : t.counts.lu ≤ 10000000000 * t.lines
  pub largest : t.largest ≤ t.counts.ode
  pub place : t.place ≤ t.lines
  pub somewhere : t.place ≡ 0 → t.lines ≡ 0

somewhere-is : (lines place : ℕ) → (eqb lines 0 || ltb 0 place) ≡ true → place ≡ 0 → lines ≡ 0
somewhere-is lines place h z =
    split (eqb lines 0) (λ y. eqb-true _ _ y)
    (λ n. absurd (let l : 0 < place = ltb-true _ _ (sym (ap (λ c. c || ltb 0 place) n) ∙ h) in omega arith))

pub good : (t : Totals) → Fit t → Good t
unfolding fit_totals place_in counts_within
good t h =
    let a = and_parts _ _ h in
    let b = and_parts _ _ a.1 in
    let c = and_parts _ _ b.1 in
    let d = and_parts _ _ c.0 in
    let e = and_parts _ _ d.1 in
    let f = and_parts _ _ e.1 in
    let g = and_parts _ _ f.1 in
    let i = and_parts _ _ g.1 in
    let j = and_parts _ _ c.1 in
    let k = and_parts _ _ j.1 in
    record {
      lines = leb-true _ _ a.0;
      runs = eqb-true _ _ b.0;
      accepted = leb-true _ _ d.0;
      rejected = leb-true _ _ e.0;
      total = leb-true _ _ f.0;
      ode = leb-true _ _ g.0;
      jac = leb-true _ _ i.0;
      lu = leb-true _ _ i.1;
      largest = leb-true _ _ j.0;
      place = leb-true _ _ k.0;
      somewhere = somewhere-is _ _ k.1;
    }

is-somewhere : (lines place : ℕ) → (place ≡ 0 → lines ≡ 0) → (eqb lines 0 || ltb 0 place) ≡ true
is-somewhere lines place h =
    split (eqb lines 0) (λ y. ap (λ c. c || ltb 0 place) y)
    (λ n. ap (λ c. c || ltb 0 place) n
    ∙ split (ltb 0 place) (λ y. y) (λ m. absurd (eqb-false _ _ n (h (let z : place
    ≡ 0 = omega (arith, ltb-false _ _ m) in z)))))

pub fit : (t : Totals) → Good t → Fit t
unfolding fit_totals place_in counts_within
fit t g =
    and_from _ _ (le-leb _ _ g.lines) (and_from _ _ (eq-eqb _ _ g.runs)
    (and_from _ _
    (and_from _ _ (le-leb _ _ g.accepted) (and_from _ _ (le-leb _ _ g.rejected)
    (and_from _ _ (le-leb _ _ g.total) (and_from _ _ (le-leb _ _ g.ode)
    (and_from _ _ (le-leb _ _ g.jac) (le-leb _ _ g.lu))))))
    (and_from _ _ (le-leb _ _ g.largest)
    (and_from _ _ (le-leb _ _ g.place) (is-somewhere _ _ g.somewhere)))))

-- ---- the code's sums

exact : (a b : ℕ) → a + b < 2 ^ 64 → plus a b ≡ a + b
exact a b h = mod-eq_of_lt h

module _ (a b : Totals) (f : Fit a) (g : Fit b) where
  place-exact : place_word a b ≡ place_of_both a b
  unfolding place_word place_of_both
  place-exact =
      let x = good a f in
      let y = good b g in
      ap (λ n. pick (eqb a.lines 0) b.place (pick (ltb a.largest b.largest) n a.place))
      (exact a.lines b.place (omega (arith, x.lines, y.lines, y.place)))

  -- no sum of fit totals wraps
  pub sum-exact : sum_words a b ≡ sum_totals a b
  unfolding sum_totals
  sum-exact =
      let x = good a f in
      let y = good b g in
      let l : a.lines ≤ 65535 = x.lines in
      let m : b.lines ≤ 65535 = y.lines in
      λ i.
      record {
        lines = exact a.lines b.lines (omega (arith, l, m)) i;
        runs = record {
          status0 = exact a.runs.status0 b.runs.status0 (omega (arith, l, m, x.runs, y.runs)) i;
          status1 = exact a.runs.status1 b.runs.status1 (omega (arith, l, m, x.runs, y.runs)) i;
          status2 = exact a.runs.status2 b.runs.status2 (omega (arith, l, m, x.runs, y.runs)) i;
          status3 = exact a.runs.status3 b.runs.status3 (omega (arith, l, m, x.runs, y.runs)) i;
          status5 = exact a.runs.status5 b.runs.status5 (omega (arith, l, m, x.runs, y.runs)) i;
          status7 = exact a.runs.status7 b.runs.status7 (omega (arith, l, m, x.runs, y.runs)) i;
        };
        counts = record {
          accepted = exact a.counts.accepted b.counts.accepted (omega (arith, l, m, x.accepted, y.accepted)) i;
          rejected = exact a.counts.rejected b.counts.rejected (omega (arith, l, m, x.rejected, y.rejected)) i;
          total = exact a.counts.total b.counts.total (omega (arith, l, m, x.total, y.total)) i;
          ode = exact a.counts.ode b.counts.ode (omega (arith, l, m, x.ode, y.ode)) i;
          jac = exact a.counts.jac b.counts.jac (omega (arith, l, m, x.jac, y.jac)) i;
          lu = exact a.counts.lu b.counts.lu (omega (arith, l, m, x.lu, y.lu)) i;
        };
        largest = max a.largest b.largest;
        place = place-exact i;
      }

-- ---- the ways of a join

module _ (a b : Totals) where
  pub left-first : fit_totals a ≡ false → Err join_error.Unfit ≡ join_of a b
  unfolding join_of
  left-first f = sym (pick_no _ _ f)

  pub left-second : fit_totals a ≡ true → fit_totals b ≡ false → Err join_error.Unfit ≡ join_of a b
  unfolding join_of
  left-second f g = sym (pick_yes _ _ f ∙ pick_no _ _ g)

  pub left-many : fit_totals a ≡ true → fit_totals b ≡ true → ltb 65535 (a.lines + b.lines) ≡ true
      → Err join_error.TooMany ≡ join_of a b
  unfolding join_of
  left-many f g h = sym (pick_yes _ _ f ∙ pick_yes _ _ g ∙ pick_yes _ _ h)

  pub join-few : fit_totals a ≡ true → fit_totals b ≡ true → ltb 65535 (a.lines + b.lines) ≡ false
      → join_of a b ≡ Ok (sum_totals a b)
  unfolding join_of
  join-few f g h = pick_yes _ _ f ∙ pick_yes _ _ g ∙ pick_no _ _ h

  pub left-joined : {t : Totals} → fit_totals a ≡ true → fit_totals b ≡ true → ltb 65535 (a.lines + b.lines) ≡ false
      → t ≡ sum_words a b → Ok t ≡ join_of a b
  left-joined f g h e = ap Ok (e ∙ sum-exact a b f g) ∙ sym (join-few f g h)

-- ---- joined totals are fit

module _ (a b : Totals) (f : Fit a) (g : Fit b) (few : a.lines + b.lines ≤ 65535) where
  place-good : (place_of_both a b ≤ a.lines + b.lines) × (place_of_both a b ≡ 0 → a.lines + b.lines ≡ 0)
  unfolding place_of_both
  place-good =
      let x = good a f in
      let y = good b g in
      pick_all (λ (p : ℕ). (p ≤ a.lines + b.lines) × (p ≡ 0 → a.lines + b.lines ≡ 0)) (eqb a.lines 0) _ _
      (λ t. let z : a.lines ≡ 0 = eqb-true _ _ t in (
        omega (arith, y.place),
        λ e. let w : b.lines ≡ 0 = y.somewhere e in omega arith,
      ))
      (λ t. let some : a.lines ≡ 0 → ⊥ = eqb-false _ _ t in
      pick_all (λ (p : ℕ). (p ≤ a.lines + b.lines) × (p ≡ 0 → a.lines + b.lines ≡ 0))
      (ltb a.largest b.largest) _ _
      (λ u. (omega (arith, y.place), λ e. absurd (some (let w : a.lines ≡ 0 = omega arith in w))))
      (λ u. (omega (arith, x.place), λ e. absurd (some (x.somewhere e)))))

  pub sum-good : Good (sum_totals a b)
  unfolding sum_totals
  sum-good =
      let x = good a f in
      let y = good b g in
      record {
        lines = few;
        runs = omega (arith, x.runs, y.runs);
        accepted = omega (arith, x.accepted, y.accepted);
        rejected = omega (arith, x.rejected, y.rejected);
        total = omega (arith, x.total, y.total);
        ode = omega (arith, x.ode, y.ode);
        jac = omega (arith, x.jac, y.jac);
        lu = omega (arith, x.lu, y.lu);
        largest = omega (arith, x.largest, y.largest);
        place = place-good.0;
        somewhere = place-good.1;
      }

  pub sum-fit : Fit (sum_totals a b)
  sum-fit = fit (sum_totals a b) sum-good
