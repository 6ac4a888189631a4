-- What follows of what a text comes to.
use Rattle.std.proofs.Common.{Result, Ok}
use Rattle.std.proofs.Common.{◌≡◌, ℕ, ◌+◌, ◌*◌, ◌≤◌, true, List, [], ◌∷◌, length, sym, refl, ◌∙◌, append_assoc}
use Rattle.std.proofs.Common.{append-nil, arith, le-leb}
use Rattle.words.specs.Loop.{pick}
use Rattle.std.proofs.lemmas.Bool.{and_from}
use Rattle.state.specs.declared.talk.IntegrationResult.{IntegrationResult}
use Rattle.state.specs.declared.run.Status.{Status}
use Rattle.state.specs.declared.run.Status.TheVariants as status
use Rattle.state.specs.Numbers.{status_number}
use Rattle.forecast_text.specs.Printed.{text, status_line}
use Rattle.night_totals.specs.Form.{spelt}
use Rattle.night_totals.specs.Counts.{counts_within}
use Rattle.night_totals.specs.Entries.{known_status, fit_entry, Fit, AllFit, none, and}
use Rattle.night_totals.specs.Entries.{line_of, written}
use Rattle.night_totals.specs.Totals.{totals_of}
use Rattle.night_totals.specs.Reads.{Reads, totals, malformed, too_many}
use Rattle.night_totals.specs.declared.entry.Entry.{Entry}
use Rattle.night_totals.specs.declared.totals.Totals.{Totals}
use Rattle.night_totals.specs.declared.night.NightError.{NightError}
use Rattle.night_totals.proofs.TotalsLaws.{counted, runs-all, sum-few}
use Rattle.night_totals.proofs.TellLaws.{told-only}

pub one-outcome-proof : (s : List ℕ) (a b : Result Totals NightError) → Reads s a → Reads s b → a ≡ b
one-outcome-proof s a b x y = sym (told-only s a x) ∙ told-only s b y

-- the lines of a text that comes to totals
record Lines (t : Totals) : Type 0 where
  es : List Entry
  fit : AllFit es
  few : length es ≤ 65535
  is : totals_of es ≡ t

lines-by : (s : List ℕ) (a : Result Totals NightError) (t : Totals) → a ≡ Ok t → Reads s a → Lines t
lines-by s a t e (totals es is h l) = record { es = es; fit = h; few = l; is = cc }
lines-by s a t e (malformed es rest is h l some never) = absurd (let z : ◌≡◌ {A = ℕ} 0 1 = cc in omega arith)
lines-by s a t e (too_many es rest is h l some) = absurd (let z : ◌≡◌ {A = ℕ} 0 1 = cc in omega arith)

pub runs-sum-proof : (s : List ℕ) (t : Totals) → Reads s (Ok t)
    → t.runs.status0 + t.runs.status1 + t.runs.status2 + t.runs.status3 + t.runs.status5 + t.runs.status7 ≡ t.lines
runs-sum-proof s t x =
    let y = lines-by s (Ok t) t refl x in rw (← y.is) (runs-all y.es y.fit)

pub record Fits (t : Totals) : Type 0 where
  pub lines : t.lines ≤ 65535
  pub accepted : t.counts.accepted ≤ 10000000000 * t.lines
  pub rejected : t.counts.rejected ≤ 10000000000 * t.lines
  pub total : t.counts.total ≤ 10000000000 * t.lines
  pub ode : t.counts.ode ≤ 10000000000 * t.lines
  pub jac : t.counts.jac ≤ 10000000000 * t.lines
  pub lu : t.counts.lu ≤ 10000000000 * t.lines

pub sums-fit-proof : (s : List ℕ) (t : Totals) → Reads s (Ok t) → Fits t
sums-fit-proof s t x =
    let y = lines-by s (Ok t) t refl x in
    rw (← y.is) (record {
      lines = y.few;
      accepted = sum-few (λ e. e.counts.accepted) (λ e f. (counted e f).accepted) y.es y.fit;
      rejected = sum-few (λ e. e.counts.rejected) (λ e f. (counted e f).rejected) y.es y.fit;
      total = sum-few (λ e. e.counts.total) (λ e f. (counted e f).total) y.es y.fit;
      ode = sum-few (λ e. e.counts.ode) (λ e f. (counted e f).ode) y.es y.fit;
      jac = sum-few (λ e. e.counts.jac) (λ e f. (counted e f).jac) y.es y.fit;
      lu = sum-few (λ e. e.counts.lu) (λ e f. (counted e f).lu) y.es y.fit;
    })

-- ---- the line that `decay` prints

abbrev pub entry_of : IntegrationResult → Entry
entry_of r =
    record {
      status = status_number r.status;
      counts = record {
        accepted = r.counts.accepted;
        rejected = r.counts.rejected;
        total = r.counts.total;
        ode = r.counts.ode;
        jac = r.counts.jac;
        lu = r.counts.lu;
      };
    }

pub as-printed-proof : (r : IntegrationResult) → status_line r ≡ line_of (entry_of r)
unfolding spelt text pick
as-printed-proof r = simp append_assoc

pub record InRange (r : IntegrationResult) : Type 0 where
  pub accepted : r.counts.accepted ≤ 10000000000
  pub rejected : r.counts.rejected ≤ 10000000000
  pub total : r.counts.total ≤ 10000000000
  pub ode : r.counts.ode ≤ 10000000000
  pub jac : r.counts.jac ≤ 10000000000
  pub lu : r.counts.lu ≤ 10000000000

known-all : (s : Status) → known_status (status_number s) ≡ true
unfolding known_status
known-all status.Success = refl
known-all status.UserInterrupt = refl
known-all status.NeedLargerNMax = refl
known-all status.StepSizeTooSmall = refl
known-all status.SingularMatrix = refl

fit-printed : (r : IntegrationResult) → InRange r → Fit (entry_of r)
unfolding fit_entry counts_within
fit-printed r x =
    and_from _ _ (known-all r.status) (and_from _ _ (le-leb _ _ x.accepted)
    (and_from _ _ (le-leb _ _ x.rejected) (and_from _ _ (le-leb _ _ x.total)
    (and_from _ _ (le-leb _ _ x.ode) (and_from _ _ (le-leb _ _ x.jac) (le-leb _ _ x.lu))))))

pub printed-read-proof : (r : IntegrationResult) → InRange r
    → Reads (status_line r) (Ok (totals_of (entry_of r ∷ [])))
unfolding written
printed-read-proof r x =
    totals (entry_of r ∷ []) (as-printed-proof r ∙ sym (append-nil (line_of (entry_of r)))) (and (fit-printed r x) none)
    (omega arith)
