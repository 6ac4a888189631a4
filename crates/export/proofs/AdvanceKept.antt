-- An advance keeps what a run is opened with: its settings, its shape and what is fixed for good.
use mathlib.Core.Path.{◌≡◌, refl, subst}
use Prim.Native.Nat.{ℕ}
use native.Mathlib.Omega.{arith}
use Rattle.state.specs.declared.run.Run.{Run}
use Rattle.state.specs.declared.talk.Place.{Place}
use Rattle.state.specs.declared.talk.Reply.{Reply}
use Rattle.state.specs.declared.talk.Request.{Request}
use Rattle.state.specs.Memory.{Memory}
use Rattle.opening.specs.Rows.{verdict_of}
use Rattle.opening.specs.Admission.{admission_rows}
use Rattle.solve_blocks.specs.Advance.{advance_by, advance_of}
use Rattle.solve_blocks.proofs.AdvanceWhole.{whole_of}
use Rattle.solve_blocks.proofs.EveryRule.{Kept, KeptAt, kept-closed, everyway}
use Rattle.std.specs.Prelude.{Ok, Err}
use Rattle.state.specs.Talk.{Verdict, call}

module _ (r : Run) (p : Reply) (m : Memory) (q : Run) (x : Request) (at : Place) where
  by : (v : Verdict) → verdict_of (admission_rows r p m) ≡ v
      → (advance_by v r p m).core.answer ≡ Ok (call q x at) → Kept r q
  unfolding advance_by KeptAt
  by (Ok tt) e h =
      let k = everyway r p m e (kept-closed r p _ _) (refl, (refl, refl)) in
      let is : (whole_of r p m).core.call.run ≡ q = cc in
      subst (Kept r) is k
  by (Err y) e h = absurd (let z : ◌≡◌ {A = ℕ} 0 1 = cc in omega arith)

  pub advance-kept-proof : (advance_of r p m).core.answer ≡ Ok (call q x at) → Kept r q
  advance-kept-proof h = by (verdict_of (admission_rows r p m)) refl h
