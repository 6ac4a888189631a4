-- No line of a sheet's table is refused: a run that begins has 1 to 32 amounts, and 826 bytes hold every line of them.
use Prim.Native.Nat.{ℕ, ◌≤◌}
use mathlib.Core.Bool.{Bool}
use mathlib.Core.Path.{◌≡◌, refl, sym, ap, ◌∙◌}
use mathlib.Core.List.{List, map}
use native.Mathlib.Omega.{arith}
use borrow.Author.Tests.{le-leb}
use lib.Ieee.{Float}
use lib.ListN.{length}
use Rattle.words.specs.Words.{double}
use Rattle.words.proofs.Branch.{pick_yes}
use Rattle.state.specs.declared.talk.Request.TheVariants.{Report}
use Rattle.opening.specs.Opening.{open_of}
use Rattle.sheet.specs.Reader.{Read, accepted, malformed, too_long, heading_of, amounts_left, over, read_of}
use Rattle.sheet.proofs.Accepted.{accepted-sound}
use Rattle.csv_table.specs.Table.{Export, export, ordered_of, line_of, header_text, record_text, header_of}
use Rattle.std.specs.Prelude.{Some, Ok}
use Rattle.csv_table.proofs.LineLaws.{ordered}
use Rattle.csv_table.proofs.Theorems.{header-few, record-few}
use Rattle.model_run.specs.Budget.{opening_of}
use Rattle.model_run.specs.declared.run.Task.{Task}
use Rattle.forecast.specs.Told.{task_from}
use Rattle.reports.specs.declared.beginning.Begun.{Begun}
use Rattle.reports.specs.Beginning.{begun_by, opened_from, begin_of}
use Rattle.reports.specs.Line.{noted, line_at}
use Rattle.std.specs.Prelude.{Err}
use Rattle.state.specs.Talk.{Opened, call}

-- ---- how many amounts a run has that begins

amounts-of : (t : Task) (a : Opened) (b : Begun) → begun_by t a ≡ Some b → b.n ≡ t.n
unfolding begun_by
amounts-of t (Err x) b e =
    absurd (let z : ◌≡◌ {A = ℕ} 0 1 = cc in let no : ⊥ = omega arith in no)
amounts-of t (Ok c) b e =
    let begun : Begun = record {
      n = t.n;
      reactions = t.reactions;
      pending = record { run = c.run; request = c.request; place = c.place };
    } in
    let same : begun ≡ b = cc in
    ap (λ (x : Begun). x.n) (sym same)

begun-few : (bytes amounts : List ℕ) (x : Read) (b : Begun) → read_of bytes ≡ x
    → begin_of x amounts ≡ Some b → (1 ≤ b.n) × (b.n ≤ 32)
unfolding begin_of opened_from heading_of
begun-few bytes amounts (accepted m) b e is =
    let v = (accepted-sound bytes m e).1 in
    let t = task_from (heading_of m) (map double (amounts_left (accepted m) amounts)) in
    let n : b.n ≡ length m.amounts = amounts-of t (open_of (opening_of t)).answer b is in
    (omega (arith, v.some, n), omega (arith, v.few, n))
begun-few bytes amounts (malformed k) b e is =
    absurd (let z : ◌≡◌ {A = ℕ} 0 1 = cc in let no : ⊥ = omega arith in no)
begun-few bytes amounts too_long b e is =
    absurd (let z : ◌≡◌ {A = ℕ} 0 1 = cc in let no : ⊥ = omega arith in no)

-- ---- its lines

line-fits : (n : ℕ) (line buffer : List ℕ) → 1 ≤ n → n ≤ 32 → length line ≤ length buffer
    → ordered_of n line buffer ≡ export (Ok (length line)) (over line buffer)
unfolding line_of
line-fits n line buffer some few h =
    ordered n line buffer some few ∙ pick_yes _ _ (le-leb (length line) (length buffer) h)

module _ (bytes amounts buffer : List ℕ) (b : Begun) (is : begin_of (read_of bytes) amounts ≡ Some b)
    (long : 826 ≤ length buffer) where
  few : (1 ≤ b.n) × (b.n ≤ 32)
  few = begun-few bytes amounts (read_of bytes) b refl is

  pub header-written-proof : header_of b.n buffer
      ≡ export (Ok (length (header_text b.n))) (over (header_text b.n) buffer)
  header-written-proof =
      line-fits b.n (header_text b.n) buffer few.0 few.1 (omega (arith, header-few b.n few.1, long))

  pub report-written-proof : (xold x : Float) (offered : Bool) (y : List Float) → length y ≡ b.n
      → line_at (Report xold x offered) y buffer
      ≡ noted (Some (Ok (length (record_text x y)))) (over (record_text x y) buffer)
  unfolding line_at
  report-written-proof xold x offered y e =
      let some : 1 ≤ length y = omega (arith, e, few.0) in
      let few' : length y ≤ 32 = omega (arith, e, few.1) in
      ap (λ (w : Export). noted (Some w.answer) w.buffer)
      (line-fits (length y) (record_text x y) buffer some few' (omega (arith, record-few x y few', long)))
