-- When an opening is refused, when accepted, and what a refusal leaves, from its definition and the law of the first
-- test that holds: the proofs behind Theorems.antt.
use Prim.Native.Nat.{ℕ}
use mathlib.Core.Path.{◌≡◌, refl, sym, ap}
use mathlib.Core.Logic.{◌↔◌}
use native.Mathlib.Omega.{arith}
use Rattle.state.specs.declared.talk.Refusal.{Refusal}
use Rattle.opening.specs.Rows.{Opening, opening_rows, verdict_of}
use Rattle.opening.specs.Opening.{OpeningOutcome, accepted_of, by_verdict, open_of}
use Rattle.opening.proofs.RowLaws.{FirstHolds, NoneHolds, verdict-first-proof}
use Rattle.std.specs.Prelude.{Ok, Err}
use Rattle.state.specs.Talk.{Verdict, passed_all}

-- an accepted opening's answer is no refusal
not-refused : (o : Opening) (r : Refusal) → (accepted_of o).answer ≡ Err r → ⊥
unfolding accepted_of
not-refused o r e = let z : ◌≡◌ {A = ℕ} 0 1 = cc in omega arith

not-passed : (r : Refusal) → passed_all ≡ Err r → ⊥
not-passed r e = let z : ◌≡◌ {A = ℕ} 0 1 = cc in omega arith

by-refusal : (v : Verdict) (o : Opening) (r : Refusal) → ((by_verdict v o).answer ≡ Err r) ↔ (v ≡ Err r)
unfolding by_verdict
by-refusal (Ok tt) o r = (λ e. absurd (not-refused o r e), λ e. absurd (not-passed r e))
by-refusal (Err x) o r = (λ e. let s : x ≡ r = cc in ap Err s, λ e. let s : x ≡ r = cc in ap Err s)

by-passing : (v : Verdict) (o : Opening) → (by_verdict v o ≡ accepted_of o) ↔ (v ≡ passed_all)
unfolding by_verdict
by-passing (Ok tt) o = (λ e. refl, λ e. refl)
by-passing (Err x) o = (
  λ e. absurd (not-refused o x (ap (λ (w : OpeningOutcome). w.answer) (sym e))),
  λ e. absurd (not-passed x (sym e)),
)

module _ (o : Opening) where
  pub refused-exactly-proof : (r : Refusal) → ((open_of o).answer ≡ Err r) ↔ FirstHolds (opening_rows o) r
  unfolding open_of
  refused-exactly-proof r =
      let a = by-refusal (verdict_of (opening_rows o)) o r in
      let b = (verdict-first-proof (opening_rows o)).0 r in
      (λ e. b.0 (a.0 e), λ f. a.1 (b.1 f))

  pub accepted-exactly-proof : (open_of o ≡ accepted_of o) ↔ NoneHolds (opening_rows o)
  unfolding open_of
  accepted-exactly-proof =
      let a = by-passing (verdict_of (opening_rows o)) o in
      let b = (verdict-first-proof (opening_rows o)).1 in
      (λ e. b.0 (a.0 e), λ f. a.1 (b.1 f))

  kept : (v : Verdict) (r : Refusal) → v ≡ Err r → (by_verdict v o).memory ≡ o.memory
  unfolding by_verdict
  kept (Ok tt) r e = absurd (not-passed r e)
  kept (Err x) r e = refl

  pub refused-kept-proof : (r : Refusal) → (open_of o).answer ≡ Err r → (open_of o).memory ≡ o.memory
  unfolding open_of
  refused-kept-proof r e = kept (verdict_of (opening_rows o)) r ((by-refusal (verdict_of (opening_rows o)) o r).0 e)
