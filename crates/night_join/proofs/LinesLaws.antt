-- Joined totals are those of the lines one after the other, and totals of lines are never refused by 28.
use Rattle.std.proofs.Common.{Result, Ok, Err}
use Rattle.std.proofs.Common.{◌≡◌, ℕ, suc, ◌+◌, ◌≤◌, eqb, ltb, List, [], ◌∷◌, ◌++◌, length, sym, refl, ap, ◌∙◌, arith}
use Rattle.std.proofs.Common.{length-append}
use Rattle.words.specs.Loop.{pick}
use Rattle.words.proofs.Branch.{pick_yes, pick_no, pick_all}
use Rattle.night_totals.specs.Entries.{AllFit}
use Rattle.night_totals.specs.Totals.{sum_of, largest_of, first_of, totals_of}
use Rattle.night_totals.specs.Reads.{Reads, totals, malformed, too_many}
use Rattle.night_totals.specs.declared.entry.Entry.{Entry}
use Rattle.night_totals.specs.declared.totals.Totals.{Totals}
use Rattle.night_totals.specs.declared.night.NightError.{NightError}
use Rattle.night_totals.proofs.TotalsLaws.{sum-append, runs_append, largest-append, place-append}
use Rattle.night_totals.proofs.TotalsLaws.{counted, runs-all, sum-few}
use Rattle.night_totals.proofs.FormLaws.{split}
use Rattle.night_join.specs.declared.joining.JoinError.TheVariants as join_error
use Rattle.night_join.specs.Join.{Fit, place_of_both, sum_totals, join_of}
use Rattle.night_join.proofs.JoinLaws.{fit, left-many, join-few}

largest-few : (es : List Entry) → largest_of es ≤ sum_of (λ e. e.counts.ode) es
unfolding largest_of sum_of
largest-few [] = omega arith
largest-few (e ∷ es) = omega (arith, largest-few es)

first-few : (v : ℕ) (es : List Entry) → first_of v es ≤ length es
unfolding first_of
first-few v [] = omega arith
first-few v (e ∷ es) =
    pick_all (λ (p : ℕ). p ≤ suc (length es)) (eqb e.counts.ode v) _ _ (λ t. omega arith)
    (λ t. omega (arith, first-few v es))

first_some : (v : ℕ) (es : List Entry) → first_of v es ≡ 0 → length es ≡ 0
unfolding first_of
first_some v [] h = refl
first_some v (e ∷ es) h =
    absurd (pick_all (λ (p : ℕ). p ≡ 0 → ⊥) (eqb e.counts.ode v) 1 (first_of v es + 1) (λ t q. omega arith)
    (λ t q. omega arith) h)

pub lines_fit : (es : List Entry) → AllFit es → length es ≤ 65535 → Fit (totals_of es)
lines_fit es h few =
    fit (totals_of es) (record {
      lines = few;
      runs = runs-all es h;
      accepted = sum-few (λ e. e.counts.accepted) (λ e f. (counted e f).accepted) es h;
      rejected = sum-few (λ e. e.counts.rejected) (λ e f. (counted e f).rejected) es h;
      total = sum-few (λ e. e.counts.total) (λ e f. (counted e f).total) es h;
      ode = sum-few (λ e. e.counts.ode) (λ e f. (counted e f).ode) es h;
      jac = sum-few (λ e. e.counts.jac) (λ e f. (counted e f).jac) es h;
      lu = sum-few (λ e. e.counts.lu) (λ e f. (counted e f).lu) es h;
      largest = largest-few es;
      place = first-few (largest_of es) es;
      somewhere = first_some (largest_of es) es;
    })

module _ (a b : List Entry) where
  sums-append : sum_totals (totals_of a) (totals_of b) ≡ totals_of (a ++ b)
  unfolding sum_totals place_of_both
  sums-append =
      sym (λ i.
      record {
        lines = length-append a b i;
        runs = record {
          status0 = runs_append 0 a b i;
          status1 = runs_append 1 a b i;
          status2 = runs_append 2 a b i;
          status3 = runs_append 3 a b i;
          status5 = runs_append 5 a b i;
          status7 = runs_append 7 a b i;
        };
        counts = record {
          accepted = sum-append (λ e. e.counts.accepted) a b i;
          rejected = sum-append (λ e. e.counts.rejected) a b i;
          total = sum-append (λ e. e.counts.total) a b i;
          ode = sum-append (λ e. e.counts.ode) a b i;
          jac = sum-append (λ e. e.counts.jac) a b i;
          lu = sum-append (λ e. e.counts.lu) a b i;
        };
        largest = largest-append a b i;
        place = place-append a b i;
      })

  pub lines-joined-proof : AllFit a → AllFit b → length a ≤ 65535 → length b ≤ 65535
      → join_of (totals_of a) (totals_of b)
      ≡ pick (ltb 65535 (length (a ++ b))) (Err join_error.TooMany) (Ok (totals_of (a ++ b)))
  lines-joined-proof f g l m =
      let x = lines_fit a f l in
      let y = lines_fit b g m in
      let e : length (a ++ b) ≡ length a + length b = length-append a b in
      split (ltb 65535 (length a + length b))
      (λ t. sym (left-many (totals_of a) (totals_of b) x y t) ∙ sym (pick_yes _ _ (ap (ltb 65535) e ∙ t)))
      (λ t. join-few (totals_of a) (totals_of b) x y t ∙ ap Ok sums-append
      ∙ sym (pick_no _ _ (ap (ltb 65535) e ∙ t)))

-- ---- what a night is told

fit-by : (s : List ℕ) (o : Result Totals NightError) (t : Totals) → o ≡ Ok t → Reads s o → Fit t
fit-by s o t e (totals es is h few) = let z : totals_of es ≡ t = cc in rw (← z) (lines_fit es h few)
fit-by s o t e (malformed es rest is h l some never) = absurd (let z : ◌≡◌ {A = ℕ} 0 1 = cc in omega arith)
fit-by s o t e (too_many es rest is h l some) = absurd (let z : ◌≡◌ {A = ℕ} 0 1 = cc in omega arith)

pub never-unfit-proof : (s : List ℕ) (t : Totals) → Reads s (Ok t) → Fit t
never-unfit-proof s t x = fit-by s (Ok t) t refl x
