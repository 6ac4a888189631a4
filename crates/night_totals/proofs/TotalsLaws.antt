-- The totals of lines one after the other, and how large they are.
use Rattle.std.proofs.Common.{◌≡◌, ℕ, zero, suc, ◌+◌, ◌*◌, ◌<◌, ◌≤◌, max, Bool, true, false, eqb, ltb, leb, List, []}
use Rattle.std.proofs.Common.{◌∷◌, ◌++◌, length, sym, refl, ap, ◌∙◌, mod-eq_of_lt, arith, length-append, ltb-false}
use Rattle.std.proofs.Common.{ltb-true, eq-eqb, ne_eqb, eqb-true, leb-true}
use borrow.Author.Tests.{eqb-false}
use Rattle.words.specs.Loop.{pick}
use Rattle.words.proofs.Branch.{pick_yes, pick_no, pick_all}
use Rattle.night_totals.specs.Entries.{known_status, fit_entry, Fit, AllFit, and}
use Rattle.night_totals.specs.Totals.{sum_of, runs_of, largest_of, first_of, totals_of}
use Rattle.night_totals.specs.Counts.{counts_within, plus, raised_of}
use Rattle.night_totals.specs.Night.{leads_of, added_of}
use Rattle.night_totals.specs.declared.entry.Entry.{Entry}
use Rattle.night_totals.proofs.FormLaws.{split}
use Rattle.std.proofs.lemmas.Bool.{and_parts}
use Rattle.std.proofs.Common.{◌||◌}

-- ---- one after the other

pub sum-append : (count : Entry → ℕ) (a b : List Entry) → sum_of count (a ++ b) ≡ sum_of count a + sum_of count b
unfolding sum_of
sum-append count [] b = let z : sum_of count b ≡ 0 + sum_of count b = omega arith in z
sum-append count (e ∷ a) b = omega (arith, sum-append count a b)

pub runs_append : (s : ℕ) (a b : List Entry) → runs_of s (a ++ b) ≡ runs_of s a + runs_of s b
unfolding runs_of
runs_append s [] b = let z : runs_of s b ≡ 0 + runs_of s b = omega arith in z
runs_append s (e ∷ a) b = omega (arith, runs_append s a b)

pub largest-append : (a b : List Entry) → largest_of (a ++ b) ≡ max (largest_of a) (largest_of b)
unfolding largest_of
largest-append [] b = let z : largest_of b ≡ max 0 (largest_of b) = omega arith in z
largest-append (e ∷ a) b = omega (arith, largest-append a b)

-- an ode above all of a's
first_absent : (v : ℕ) (a b : List Entry) → largest_of a < v → first_of v (a ++ b) ≡ length a + first_of v b
unfolding largest_of first_of
first_absent v [] b h = let z : first_of v b ≡ 0 + first_of v b = omega arith in z
first_absent v (e ∷ a) b h =
    let l : largest_of a < v = omega arith in
    let n : eqb e.counts.ode v ≡ false = ne_eqb e.counts.ode v (λ q. omega arith) in
    pick_no _ _ n ∙ omega (arith, first_absent v a b l)

other : (x y v : ℕ) → max x y ≡ v → (x ≡ v → ⊥) → y ≡ v
other x y v h n =
    pick_all (λ (z : ℕ). y ≡ v) (ltb x y) 0 0 (λ t. let l : x < y = ltb-true _ _ t in omega arith)
    (λ t. let l : y ≤ x = ltb-false _ _ t in absurd (n (let z : x ≡ v = omega arith in z)))

-- the largest of a's, which some line of a has
first-present : (v : ℕ) (a b : List Entry) → largest_of a ≡ v → 0 < length a → first_of v (a ++ b) ≡ first_of v a
unfolding largest_of first_of
first-present v [] b h l = absurd (omega arith)
first-present v (e ∷ []) b h l =
    let y : e.counts.ode ≡ v = omega arith in
    pick_all (λ x. pick (eqb e.counts.ode v) 1 (first_of v b + 1)
    ≡ x) (eqb e.counts.ode v) 1 (0 + 1) (λ t. pick_yes _ _ t)
    (λ f. absurd (eqb-false _ _ f y))
first-present v (e ∷ f ∷ a) b h l =
    pick_all (λ x. pick (eqb e.counts.ode v) 1 (first_of v (f
    ∷ a ++ b) + 1) ≡ x) (eqb e.counts.ode v) 1 (first_of v (f ∷ a) + 1)
    (λ t. pick_yes _ _ t)
    (λ n. pick_no _ _ n ∙ ap (λ x. x + 1) (first-present v (f ∷ a) b (other e.counts.ode (largest_of (f ∷ a)) v h
    (eqb-false _ _ n)) (omega arith)))

abbrev pub place_of : List Entry → ℕ
place_of es = first_of (largest_of es) es

pub place-append : (a b : List Entry) → place_of (a ++ b)
    ≡ pick (eqb (length a) 0) (place_of b)
    (pick (ltb (largest_of a) (largest_of b)) (length a + place_of b) (place_of a))
place-append [] b = sym (pick_yes _ _ refl)
place-append (e ∷ a) b =
    let n : eqb (length (e ∷ a)) 0 ≡ false = ne_eqb (length (e ∷ a)) 0 (λ q. omega arith) in
    let all = e ∷ a in
    pick_all (λ x. place_of (all ++ b) ≡ x) (ltb (largest_of all) (largest_of b)) (length all + place_of b)
    (place_of all)
    (λ t. let l : largest_of all < largest_of b = ltb-true _ _ t in
    let m : largest_of (all ++ b) ≡ largest_of b = omega (arith, largest-append all b) in
    ap (λ v. first_of v (all ++ b)) m ∙ first_absent (largest_of b) all b l)
    (λ t. let l : largest_of b ≤ largest_of all = ltb-false _ _ t in
    let m : largest_of (all ++ b) ≡ largest_of all = omega (arith, largest-append all b) in
    ap (λ v. first_of v (all ++ b)) m ∙ first-present (largest_of all) all b refl (omega arith))
    ∙ sym (pick_no _ _ n)

-- ---- what a fit line says

pub record Counted (e : Entry) : Type 0 where
  pub status : known_status e.status ≡ true
  pub accepted : e.counts.accepted ≤ 10000000000
  pub rejected : e.counts.rejected ≤ 10000000000
  pub total : e.counts.total ≤ 10000000000
  pub ode : e.counts.ode ≤ 10000000000
  pub jac : e.counts.jac ≤ 10000000000
  pub lu : e.counts.lu ≤ 10000000000

pub counted : (e : Entry) → Fit e → Counted e
unfolding fit_entry counts_within
counted e h =
    let a = and_parts _ _ h in
    let b = and_parts _ _ a.1 in
    let c = and_parts _ _ b.1 in
    let d = and_parts _ _ c.1 in
    let f = and_parts _ _ d.1 in
    let g = and_parts _ _ f.1 in
    record {
      status = a.0;
      accepted = leb-true _ _ b.0;
      rejected = leb-true _ _ c.0;
      total = leb-true _ _ d.0;
      ode = leb-true _ _ f.0;
      jac = leb-true _ _ g.0;
      lu = leb-true _ _ g.1;
    }

module _ (P : ℕ → Type 0) (p₀ : P 0) (p₁ : P 1) (p₂ : P 2) (p₃ : P 3) (p₅ : P 5) (p₇ : P 7) where
  low-cases : (s : ℕ) → s ≤ 3 → P s
  low-cases zero h = p₀
  low-cases (suc zero) h = p₁
  low-cases (suc (suc zero)) h = p₂
  low-cases (suc (suc (suc zero))) h = p₃
  low-cases (suc (suc (suc (suc s)))) h = absurd (omega arith)

  -- what holds of the six statuses holds of each that is known
  pub known-cases : (s : ℕ) → known_status s ≡ true → P s
  unfolding known_status
  known-cases s h =
      split (leb s 3) (λ t. low-cases s (leb-true _ _ t))
      (λ f. split (eqb s 5) (λ t. rw (eqb-true s 5 t) p₅)
      (λ g. rw (eqb-true s 7
      (sym (ap (λ c. c || (eqb s 5 || eqb s 7)) f ∙ ap (λ c. c || eqb s 7) g) ∙ h)) p₇))

abbrev one : ℕ → ℕ → ℕ
one s of = pick (eqb s of) 1 0

known-one : (s : ℕ) → known_status s ≡ true
    → one s 0 + one s 1 + one s 2 + one s 3 + one s 5 + one s 7 ≡ 1
unfolding pick
known-one =
    known-cases (λ s. one s 0 + one s 1 + one s 2 + one s 3 + one s 5 + one s 7 ≡ 1) refl refl refl refl refl refl

pub runs-all : (es : List Entry) → AllFit es
    → runs_of 0 es + runs_of 1 es + runs_of 2 es + runs_of 3 es + runs_of 5 es + runs_of 7 es ≡ length es
unfolding runs_of
runs-all [] h = refl
runs-all (e ∷ es) (and f h) = omega (arith, known-one e.status (counted e f).status, runs-all es h)

-- ---- how large

pub sum-few : (count : Entry → ℕ) → ((e : Entry) → Fit e → count e ≤ 10000000000) → (es : List Entry) → AllFit es
    → sum_of count es ≤ 10000000000 * length es
unfolding sum_of
sum-few count small [] h = omega arith
sum-few count small (e ∷ es) (and f h) = omega (arith, small e f, sum-few count small es h)

runs-few : (s : ℕ) (es : List Entry) → runs_of s es ≤ length es
unfolding runs_of
runs-few s [] = omega arith
runs-few s (e ∷ es) =
    pick_all (λ n. n + runs_of s es ≤ suc (length es)) (eqb e.status s) 1 0
    (λ t. omega (arith, runs-few s es)) (λ t. omega (arith, runs-few s es))

-- ---- one line more

leads-either : (b c : Bool) (A : Type 0) (x y : A) → pick (b || c) x y ≡ pick b x (pick c x y)
unfolding pick
leads-either true c A x y = refl
leads-either false c A x y = refl

none-largest : (es : List Entry) {a b : ℕ} → length es ≡ 0 → a ≡ max (largest_of es) b → b ≡ a
unfolding largest_of
none-largest [] h m = omega arith
none-largest (e ∷ es) h m = absurd (omega arith)

module _ (es : List Entry) (fit : AllFit es) (few : length es < 65535) (e : Entry) (line : Fit e) where
  abbrev more : List Entry
  more = es ++ (e ∷ [])

  lines_more : plus (length es) 1 ≡ length more
  lines_more = mod-eq_of_lt (omega arith) ∙ sym (length-append es (e ∷ []))

  runs-more : (s : ℕ) → raised_of (runs_of s es) e.status s ≡ runs_of s more
  unfolding raised_of runs_of
  runs-more s =
      let z : runs_of s more ≡ runs_of s es + (one e.status s + 0) = runs_append s es (e ∷ []) in
      pick_all (λ n. n ≡ runs_of s more) (eqb e.status s) (plus (runs_of s es) 1) (runs_of s es)
      (λ t. mod-eq_of_lt (omega (arith, runs-few s es)) ∙ omega (arith, pick_yes {A = ℕ} 1 0 t))
      (λ t. omega (arith, pick_no {A = ℕ} 1 0 t))

  sum_more : (count : Entry → ℕ) → ((e : Entry) → Fit e → count e ≤ 10000000000)
      → plus (sum_of count es) (count e) ≡ sum_of count more
  unfolding sum_of
  sum_more count small =
      let z : sum_of count more ≡ sum_of count es + (count e + 0) = sum-append count es (e ∷ []) in
      mod-eq_of_lt (omega (arith, sum-few count small es fit, small e line)) ∙ omega arith

  leads-by : (A : Type 0) (x y : A) → pick (leads_of (totals_of es) e.counts.ode) x y
      ≡ pick (eqb (length es) 0) x (pick (ltb (largest_of es) e.counts.ode) x y)
  unfolding leads_of
  leads-by A x y = leads-either (eqb (length es) 0) (ltb (largest_of es) e.counts.ode) A x y

  largest-one : largest_of (e ∷ []) ≡ e.counts.ode
  unfolding largest_of
  largest-one = omega arith

  place-one : place_of (e ∷ []) ≡ 1
  unfolding first_of
  place-one = pick_yes _ _ (eq-eqb _ _ (sym largest-one))

  largest-more : pick (leads_of (totals_of es) e.counts.ode) e.counts.ode (largest_of es) ≡ largest_of more
  largest-more =
      let m : largest_of more ≡ max (largest_of es) e.counts.ode =
      largest-append es (e ∷ []) ∙ ap (λ x. max (largest_of es) x) largest-one in
      leads-by ℕ e.counts.ode (largest_of es)
      ∙ pick_all (λ x. x ≡ largest_of more) (eqb (length es) 0) e.counts.ode _
      (λ t. none-largest es (eqb-true _ _ t) m)
      (λ t. pick_all (λ x. x ≡ largest_of more) (ltb (largest_of es) e.counts.ode) e.counts.ode (largest_of es)
      (λ u. let l : largest_of es < e.counts.ode = ltb-true _ _ u in omega arith)
      (λ u. let l : e.counts.ode ≤ largest_of es = ltb-false _ _ u in omega arith))

  place-more : pick (leads_of (totals_of es) e.counts.ode) (plus (length es) 1) (place_of es) ≡ place_of more
  place-more =
      let p : plus (length es) 1 ≡ length es + 1 = mod-eq_of_lt (omega arith) in
      leads-by ℕ (plus (length es) 1) (place_of es)
      ∙ sym (place-append es (e ∷ [])
      ∙ ap (λ x. pick (eqb (length es) 0) x (pick (ltb (largest_of es) (largest_of (e ∷ []))) (length es + x) (place_of
      es)))
      place-one
      ∙ ap (λ x. pick (eqb (length es) 0) 1 (pick (ltb (largest_of es) x) (length es + 1) (place_of es))) largest-one
      ∙ ap (λ x. pick (eqb (length es) 0) 1 (pick (ltb (largest_of es) e.counts.ode) x (place_of es))) (sym p)
      ∙ pick_all (λ x. pick (eqb (length es) 0) 1 (pick (ltb (largest_of es) e.counts.ode) (plus
      (length es) 1) (place_of
      es)) ≡ x)
      (eqb (length es) 0) (plus (length es) 1) _
      (λ t. pick_yes _ _ t ∙ (let z : length es ≡ 0 = eqb-true _ _ t in omega arith))
      (λ t. pick_no _ _ t))

  pub added_is : added_of (totals_of es) e ≡ totals_of more
  added_is =
      rw (
        place-more,
        lines_more,
        runs-more 0,
        runs-more 1,
        runs-more 2,
        runs-more 3,
        runs-more 5,
        runs-more 7,
        sum_more (λ e. e.counts.accepted) (λ e f. (counted e f).accepted),
        sum_more (λ e. e.counts.rejected) (λ e f. (counted e f).rejected),
        sum_more (λ e. e.counts.total) (λ e f. (counted e f).total),
        sum_more (λ e. e.counts.ode) (λ e f. (counted e f).ode),
        sum_more (λ e. e.counts.jac) (λ e f. (counted e f).jac),
        sum_more (λ e. e.counts.lu) (λ e f. (counted e f).lu),
        largest-more,
      )
