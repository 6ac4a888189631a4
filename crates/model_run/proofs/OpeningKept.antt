-- An accepted opening of a task leaves the memory that it was given: all that it sets to +0 is +0 already, and
-- the tolerances are scalars.
use Prim.Native.Nat.{ℕ}
use mathlib.Core.Path.{◌≡◌, refl, sym, ap, ◌∙◌}
use mathlib.Core.List.{List}
use native.Mathlib.Omega.{arith}
use lib.ListN.{take}
use lib.Ieee.{Float}
use borrow.Author.Tests.{le-leb}
use Rattle.words.proofs.Branch.{pick_yes}
use Rattle.state.specs.declared.settings.Mass.{Mass}
use Rattle.state.specs.declared.settings.Mass.TheVariants as mass
use Rattle.state.specs.declared.settings.Rule.{Rule}
use Rattle.state.specs.declared.run.Run.{Run}
use Rattle.state.specs.declared.run.Tolerances.TheVariants.{Scalars}
use Rattle.state.specs.declared.talk.Place.{Place}
use Rattle.state.specs.declared.talk.Request.{Request}
use Rattle.state.specs.Memory.{zeros}
use Rattle.opening.specs.Rows.{opening_rows, verdict_of}
use Rattle.opening.specs.Tolerances.{converted_of}
use Rattle.opening.specs.Opening.{accepted_of, by_verdict, cleared_of, mass_kept, open_of}
use Rattle.opening.proofs.OpeningLaws.{in_order}
use Rattle.opening.proofs.Theorems.{verdict-first}
use Rattle.model_run.specs.declared.run.Task.{Task}
use Rattle.model_run.specs.Budget.{lent_of, room_of, memory_of, opening_of}
use Rattle.std.specs.Prelude.{Ok, Err}
use Rattle.state.specs.Talk.{Verdict, call, passed_all}

cleared-lent : (s : Mass) (r : Rule) (n : ℕ) (rtol atol : Float) (v w y : List Float)
    → cleared_of s n (converted_of r n (Scalars rtol atol) v w) (lent_of n y) ≡ lent_of n y
unfolding cleared_of mass_kept converted_of
cleared-lent mass.Identity r n rtol atol v w y = refl
cleared-lent mass.Full r n rtol atol v w y = refl

module _ (t : Task) where
  accepted-lent : (k : ℕ) → k ≡ t.n → (y : List Float)
      → cleared_of t.settings.mass t.n
      (converted_of t.settings.rule t.n (Scalars t.rtol t.atol) (zeros k) (zeros k)) (lent_of k y)
      ≡ lent_of k y
  accepted-lent k e y =
      ap (λ (j : ℕ). cleared_of t.settings.mass t.n
      (converted_of t.settings.rule t.n (Scalars t.rtol t.atol) (zeros k) (zeros k)) (lent_of j y))
      e
      ∙ cleared-lent t.settings.mass t.settings.rule t.n t.rtol t.atol (zeros k) (zeros k) y
      ∙ ap (λ (j : ℕ). lent_of j y) (sym e)

  -- an order above 32 is refused by the first row
  has_room : verdict_of (opening_rows (opening_of t)) ≡ passed_all → room_of t.n ≡ t.n
  has_room e =
      let none = (verdict-first (opening_rows (opening_of t))).1.0 e 0 (omega arith) in
      pick_yes t.n 32 (le-leb t.n 32 (in_order t.n none).1)

  by-verdict : (v : Verdict) (r : Run) (q : Request) (p : Place) → verdict_of (opening_rows (opening_of t)) ≡ v
      → (by_verdict v (opening_of t)).answer ≡ Ok (call r q p)
      → (by_verdict v (opening_of t)).memory ≡ memory_of t
  unfolding by_verdict accepted_of
  by-verdict (Ok tt) r q p e a = accepted-lent (room_of t.n) (has_room e) (take (room_of t.n) t.amounts)
  by-verdict (Err x) r q p e a = let z : ◌≡◌ {A = ℕ} 0 1 = cc in absurd (omega arith)

  pub opening-kept : (r : Run) (q : Request) (p : Place) → (open_of (opening_of t)).answer ≡ Ok (call r q p)
      → (open_of (opening_of t)).memory ≡ memory_of t
  unfolding open_of
  opening-kept r q p a = by-verdict (verdict_of (opening_rows (opening_of t))) r q p refl a
