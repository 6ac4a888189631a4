-- The ways out of the functions of src/beginning.rt: what the callees promise is what the definition says of what was
-- read, or of how the opening was answered.
use Prim.Native.Nat.{ℕ}
use mathlib.Core.Path.{◌≡◌, refl, sym, ap, ◌∙◌}
use mathlib.Core.List.{List, map}
use native.Mathlib.Omega.{arith}
use lib.Ieee.{Float}
use Rattle.words.specs.Words.{double}
use Rattle.state.specs.declared.run.Run.{Run}
use Rattle.state.specs.declared.talk.Place.{Place}
use Rattle.state.specs.declared.talk.Refusal.{Refusal}
use Rattle.state.specs.declared.talk.Request.{Request}
use Rattle.opening.specs.Opening.{open_of}
use Rattle.sheet.specs.Reader.{Read, accepted, malformed, too_long, heading_of, answer_of, amounts_left}
use Rattle.sheet.specs.declared.sheet.Heading.{Heading}
use Rattle.std.proofs.Common.{Ok, Err, None, Some, Option}
use Rattle.sheet.specs.declared.sheet.SheetError.{SheetError}
use Rattle.model_run.specs.Budget.{opening_of}
use Rattle.model_run.specs.declared.run.Task.{Task}
use Rattle.forecast.specs.Told.{task_from}
use Rattle.reports.specs.Beginning.{begun_by, opened_from, begin_of}
use Rattle.state.specs.Talk.{Opened, call}
use Rattle.reports.specs.declared.beginning.Begun.{Begun}

-- ---- how the opening was answered

module _ (h : Heading) (amounts : List ℕ) {floats : List Float} {t : Task} {a : Opened}
    (converted : floats ≡ map double amounts) (is : t ≡ task_from h floats)
    (answered : a ≡ (open_of (opening_of t)).answer) where
  answered-so : begun_by t a ≡ opened_from h amounts
  unfolding opened_from
  answered-so =
      ap (begun_by t) answered
      ∙ ap (λ (x : Task). begun_by x (open_of (opening_of x)).answer) (is ∙ ap (task_from h) converted)

  pub opened-refused : (x : Refusal) → a ≡ Err x → None ≡ opened_from h amounts
  unfolding begun_by
  opened-refused x e = sym (ap (begun_by t) e) ∙ answered-so

  pub opened-asked : (r : Run) (q : Request) (p : Place) → a ≡ Ok (call r q p)
      → Some (record {
        n = t.n;
        reactions = t.reactions;
        pending = record { run = r; request = q; place = p };
      })
      ≡ opened_from h amounts
  unfolding begun_by
  opened-asked r q p e = sym (ap (begun_by t) e) ∙ answered-so

-- ---- what was read

pub begin-read : (x : Read) (h : Heading) (amounts : List ℕ) {left : List ℕ} {r : Option Begun}
    → Ok h ≡ answer_of x → left ≡ amounts_left x amounts → r ≡ opened_from h left → r ≡ begin_of x amounts
unfolding answer_of begin_of
begin-read (accepted m) h amounts e l o =
    let same : h ≡ heading_of m = cc in
    o ∙ ap (opened_from h) l ∙ ap (λ (g : Heading). opened_from g (amounts_left (accepted m) amounts)) same
begin-read (malformed k) h amounts e l o = absurd (let z : ◌≡◌ {A = ℕ} 0 1 = cc in let no : ⊥ = omega arith in no)
begin-read too_long h amounts e l o = absurd (let z : ◌≡◌ {A = ℕ} 0 1 = cc in let no : ⊥ = omega arith in no)

pub begin-refused : (x : Read) (e : SheetError) (amounts : List ℕ) → Err e ≡ answer_of x
    → None ≡ begin_of x amounts
unfolding answer_of begin_of
begin-refused (accepted m) e amounts q = absurd (let z : ◌≡◌ {A = ℕ} 0 1 = cc in let no : ⊥ = omega arith in no)
begin-refused (malformed j) e amounts q = refl
begin-refused too_long e amounts q = refl
