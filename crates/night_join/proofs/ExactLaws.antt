-- 28 is given exactly where a side fails a test of 02's list, and 26 exactly where there are too many lines then.
use Rattle.std.proofs.Common.{Ok, Err}
use Rattle.std.proofs.Common.{◌≡◌, ℕ, ◌+◌, ◌*◌, ◌<◌, ◌≤◌, false, eqb, ltb, ◌⊎◌, ◌↔◌, sym, ◌∙◌, inl, inr, true≢false}
use Rattle.std.proofs.Common.{arith, ltb-false, ltb-true, lt-ltb, eqb-true}
use borrow.Author.Tests.{eqb-false}
use Rattle.night_totals.specs.declared.totals.Totals.{Totals}
use Rattle.night_totals.proofs.FormLaws.{split}
use Rattle.night_join.specs.declared.joining.JoinError.TheVariants as join_error
use Rattle.night_join.specs.Join.{runs_in, fit_totals, Fit, sum_totals, join_of, Unfit}
use Rattle.night_join.specs.Join.{lines, runs, accepted, rejected, total, ode, jac, lu, largest, above, nowhere}
use Rattle.night_join.proofs.JoinLaws.{Good, good, fit, left-first, left-second, left-many, join-few}

module _ (t : Totals) where
  -- a sum above what so many lines can have, or not
  module _ (G : Type 0) (sum : ℕ) (over : 10000000000 * t.lines < sum → G)
      (within : sum ≤ 10000000000 * t.lines → G) where
    sum-split : G
    sum-split =
        split (ltb (10000000000 * t.lines) sum) (λ y. over (ltb-true _ _ y)) (λ n. within (ltb-false _ _ n))

  placed-or : (Good t → Unfit t) → t.lines ≤ 65535 → runs_in t ≡ t.lines → t.counts.accepted ≤ 10000000000 * t.lines
      → t.counts.rejected ≤ 10000000000 * t.lines → t.counts.total ≤ 10000000000 * t.lines
      → t.counts.ode ≤ 10000000000 * t.lines
      → t.counts.jac ≤ 10000000000 * t.lines → t.counts.lu ≤ 10000000000 * t.lines → Unfit t
  placed-or never h₀ h₁ h₂ h₃ h₄ h₅ h₆ h₇ =
      split (ltb t.counts.ode t.largest) (λ y. largest (ltb-true _ _ y))
      (λ n. split (ltb t.lines t.place) (λ y. above (ltb-true _ _ y))
      (λ m. split (ltb 0 t.lines)
      (λ y. split (eqb t.place 0) (λ z. nowhere (eqb-true _ _ z) (ltb-true _ _ y))
      (λ z. never (record {
        lines = h₀;
        runs = h₁;
        accepted = h₂;
        rejected = h₃;
        total = h₄;
        ode = h₅;
        jac = h₆;
        lu = h₇;
        largest = ltb-false _ _ n;
        place = ltb-false _ _ m;
        somewhere = λ e. absurd (eqb-false _ _ z e);
      })))
      (λ y. never (record {
        lines = h₀;
        runs = h₁;
        accepted = h₂;
        rejected = h₃;
        total = h₄;
        ode = h₅;
        jac = h₆;
        lu = h₇;
        largest = ltb-false _ _ n;
        place = ltb-false _ _ m;
        somewhere = λ e. let w : t.lines ≤ 0 = ltb-false _ _ y in omega arith;
      }))))

  pub unfit-by : fit_totals t ≡ false → Unfit t
  unfit-by h =
      let never : Good t → Unfit t = λ x. absurd (true≢false (sym (fit t x) ∙ h)) in
      split (ltb 65535 t.lines) (λ y. lines (ltb-true _ _ y))
      (λ n. split (eqb (runs_in t) t.lines)
      (λ e. sum-split (Unfit t) t.counts.accepted accepted
      (λ h₂. sum-split (Unfit t) t.counts.rejected rejected
      (λ h₃. sum-split (Unfit t) t.counts.total total
      (λ h₄. sum-split (Unfit t) t.counts.ode ode
      (λ h₅. sum-split (Unfit t) t.counts.jac jac
      (λ h₆. sum-split (Unfit t) t.counts.lu lu
      (λ h₇. placed-or never (ltb-false _ _ n) (eqb-true _ _ e) h₂ h₃ h₄ h₅ h₆ h₇)))))))
      (λ e. runs (eqb-false _ _ e)))

  bad : Unfit t → Good t → ⊥
  bad (lines h) x = omega (arith, x.lines)
  bad (runs h) x = h x.runs
  bad (accepted h) x = omega (arith, x.accepted)
  bad (rejected h) x = omega (arith, x.rejected)
  bad (total h) x = omega (arith, x.total)
  bad (ode h) x = omega (arith, x.ode)
  bad (jac h) x = omega (arith, x.jac)
  bad (lu h) x = omega (arith, x.lu)
  bad (largest h) x = omega (arith, x.largest)
  bad (above h) x = omega (arith, x.place)
  bad (nowhere z h) x = let w : t.lines ≡ 0 = x.somewhere z in omega arith

  pub unfit-is : Unfit t → fit_totals t ≡ false
  unfit-is u = split (fit_totals t) (λ y. absurd (bad u (good t y))) (λ n. n)

module _ (a b : Totals) where
  either-by : join_of a b ≡ Err join_error.Unfit → Unfit a ⊎ Unfit b
  either-by e =
      split (fit_totals a)
      (λ f. split (fit_totals b)
      (λ g. split (ltb 65535 (a.lines + b.lines))
      (λ m. absurd (let z : (Err join_error.TooMany) ≡ Err join_error.Unfit = left-many a b f g m ∙ e in
      let w : ◌≡◌ {A = ℕ} 0 1 = cc in omega arith))
      (λ m. absurd (let z : Ok (sum_totals a b) ≡ Err join_error.Unfit = sym (join-few a b f g m) ∙ e in
      let w : ◌≡◌ {A = ℕ} 0 1 = cc in omega arith)))
      (λ g. inr (unfit-by b g)))
      (λ f. inl (unfit-by a f))

  either_is : Unfit a ⊎ Unfit b → join_of a b ≡ Err join_error.Unfit
  either_is (inl u) = sym (left-first a b (unfit-is a u))
  either_is (inr u) =
      split (fit_totals a) (λ f. sym (left-second a b f (unfit-is b u))) (λ f. sym (left-first a b f))

  pub unfit-exactly-proof : (join_of a b ≡ Err join_error.Unfit) ↔ (Unfit a ⊎ Unfit b)
  unfit-exactly-proof = (either-by, either_is)

  pub many-exactly-proof : Fit a → Fit b → (join_of a b ≡ Err join_error.TooMany) ↔ (65535 < a.lines + b.lines)
  many-exactly-proof f g = (
    λ e. split (ltb 65535 (a.lines + b.lines)) (λ m. ltb-true _ _ m)
        (λ m. absurd (let z : Ok (sum_totals a b) ≡ Err join_error.TooMany = sym (join-few a b f g m) ∙ e in
        let w : ◌≡◌ {A = ℕ} 0 1 = cc in omega arith)),
    λ h. sym (left-many a b f g (lt-ltb 65535 (a.lines + b.lines) h)),
  )
