-- An opening answers the same under another limit that is permitted, but for the limit.
use Prim.Native.Nat.{ℕ, ◌≤◌}
use mathlib.Core.Path.{◌≡◌, refl, sym, ap, ◌∙◌}
use mathlib.Core.List.{List}
use native.Mathlib.Omega.{arith}
use borrow.Author.Tests.{le-ltb}
use Rattle.state.specs.declared.settings.Settings.{Settings}
use Rattle.state.specs.declared.run.Run.{Run}
use Rattle.state.specs.declared.talk.Place.{Place}
use Rattle.state.specs.declared.talk.Request.{Request}
use Rattle.state.specs.Memory.{Memory}
use Rattle.opening.specs.Rows.{Test, Opening, opening_rows, verdict_of}
use Rattle.opening.specs.Opening.{OpeningOutcome, opening_outcome, open_of, by_verdict, accepted_of, first_run}
use Rattle.opening.specs.Opening.{fixed_of}
use Rattle.opening.specs.Opening.{shape_of, first_step_of}
use Rattle.opening.proofs.RowLaws.{verdict-first-proof}
use Rattle.opening.proofs.OpeningLaws.{within}
use Rattle.limit.specs.Limit.{opening_with, run_with}
use Rattle.std.specs.Prelude.{Ok, Err}
use Rattle.state.specs.Talk.{Verdict, Opened, call, passed_all}

-- what is answered to an opening
abbrev pub opened_with : ℕ → OpeningOutcome → OpeningOutcome
opened_with M x = opening_outcome (answer_with x.answer) x.memory
  where
    answer_with : Opened → Opened
    answer_with (Ok c) = Ok (call (run_with M c.run) c.request c.place)
    answer_with (Err y) = Err y

accepted-same : (M : ℕ) (o : Opening) → accepted_of (opening_with M o) ≡ opened_with M (accepted_of o)
unfolding accepted_of first_run fixed_of shape_of first_step_of
accepted-same M o = refl

module _ (M : ℕ) (o : Opening) (least : 1 ≤ o.settings.max_steps) (more : o.settings.max_steps ≤ M)
    (permitted : M ≤ 1_000_000) where
  rows_same : opening_rows (opening_with M o) ≡ opening_rows o
  rows_same =
      let k = o.settings.max_steps in
      rw (
        le-ltb M 1 (omega (arith, least, more)),
        le-ltb 1_000_000 M permitted,
        le-ltb k 1 least,
        le-ltb 1_000_000 k (omega (arith, more, permitted)),
      )
      refl

  pub opening-same : open_of (opening_with M o) ≡ opened_with M (open_of o)
  unfolding open_of by_verdict
  opening-same =
      ap (λ (ts : List Test). by_verdict (verdict_of ts) (opening_with M o)) rows_same ∙ by
      (verdict_of (opening_rows o))
    where
      by : (v : Verdict) → by_verdict v (opening_with M o) ≡ opened_with M (by_verdict v o)
      by (Ok tt) = accepted-same M o
      by (Err x) = refl

-- ---- of an opening that is accepted

module _ (o : Opening) (r : Run) (q : Request) (p : Place) (m : Memory)
    (asked : open_of o ≡ opening_outcome (Ok (call r q p)) m) where
  abbrev settings_in : Opened → Settings
  settings_in (Ok c) = c.run.settings
  settings_in (Err x) = o.settings

  -- a refused opening asks nothing
  passed-by : (v : Verdict) → by_verdict v o ≡ opening_outcome (Ok (call r q p)) m → v ≡ passed_all
  unfolding by_verdict
  passed-by (Ok tt) e = refl
  passed-by (Err x) e =
      let a : Err x ≡ Ok (call r q p) = ap (λ (y : OpeningOutcome). y.answer) e in
      let z : ◌≡◌ {A = ℕ} 0 1 = cc in
      absurd (omega arith)

  passed : verdict_of (opening_rows o) ≡ passed_all
  unfolding open_of
  passed = passed-by (verdict_of (opening_rows o)) asked

  pub first-limit : 1 ≤ o.settings.max_steps
  first-limit =
      let none = (verdict-first-proof (opening_rows o)).1.0 passed in
      (within 1 1_000_000 o.settings.max_steps (none 16 (omega arith))).0

  -- the run has the settings of its opening
  settings-by : (v : Verdict) → settings_in (by_verdict v o).answer ≡ o.settings
  unfolding by_verdict accepted_of first_run
  settings-by (Ok tt) = refl
  settings-by (Err x) = refl

  pub first-settings : r.settings ≡ o.settings
  unfolding open_of
  first-settings =
      sym (ap (λ (y : OpeningOutcome). settings_in y.answer) asked) ∙ settings-by (verdict_of (opening_rows o))
