-- The estimate of the error, an acceptance and a rejection look at nothing that may differ.
use Prim.Native.Nat.{ℕ}
use mathlib.Core.Path.{◌≡◌, refl, ap}
use mathlib.Core.List.{List}
use lib.Ieee.{Float}
use Rattle.words.specs.Words.{◌⊘◌}
use Rattle.state.specs.declared.run.Run.{Run}
use Rattle.state.specs.Memory.{Newton}
use Rattle.solve_blocks.specs.Setters.{◌▸◌, in_counts, in_numbers, one_lu, set_hnew}
use Rattle.solve_blocks.specs.Events.{error-solve, Logged, noted}
use Rattle.solve_blocks.specs.Entries.{Three, three}
use Rattle.solve_blocks.specs.Estimate.{defect_of, sides, sides_of, solved_first, error_of}
use Rattle.solve_blocks.specs.Judge.{fac_of, between, quot_of, predictive_quot, accepted_point, accepted_of}
use Rattle.solve_blocks.specs.Judge.{rejected_of, Judged, judged_of, with_judged, tested_of, estimate_of, refined_of}
use Rattle.solve_beside.specs.Changes.{Changes, run_by}
use Rattle.solve_beside.proofs.Branches.{pick-maps, on_core}
use Rattle.solve_beside.proofs.Carried.{on_judged, on_estimated, RuleSame}

module _ (c : Changes) (rules : RuleSame c) where
  accepted-same : (r : Run) (err quot : Float) → accepted_of (run_by c r) err quot ≡ run_by c (accepted_of r err quot)
  unfolding accepted_of predictive_quot between
  accepted-same r err quot = ap accepted_point (pick-maps (run_by c) r.settings.predictive refl refl)

  rejected-same : (r : Run) (hnew : Float) → rejected_of (run_by c r) hnew ≡ run_by c (rejected_of r hnew)
  unfolding rejected_of
  rejected-same r hnew = pick-maps (run_by c) _ (rules.missed _) (rules.missed _)

  judged-same : (r : Run) (err : Float) (z : Three) (y cont : List Float)
      → judged_of (run_by c r) err z y cont ≡ on_core (on_judged c) (judged_of r err z y cont)
  unfolding judged_of quot_of between fac_of
  judged-same r err z y cont =
      let quot = quot_of r.settings r.control.newt_iter err in
      let hnew = r.numbers.h ⊘ quot in
      pick-maps (on_core (on_judged c)) _ (rw (accepted-same r err quot) refl)
      (rw (rejected-same (r ▸ in_numbers (set_hnew hnew)) hnew) refl)

  tested-same : (r : Run) (err : Float) (z : Three) (y cont : List Float)
      → tested_of (run_by c r) err z y cont ≡ on_core (on_judged c) (tested_of r err z y cont)
  unfolding tested_of
  tested-same r err z y cont = pick-maps (on_core (on_judged c)) _ refl (judged-same r err z y cont)

  pub estimate-same : (r : Run) (mass e1 : List Float) (ip1 : List ℕ) (f0 scal y cont : List Float) (m : Newton)
      → estimate_of (run_by c r) mass e1 ip1 f0 scal y cont m
      ≡ on_core (on_estimated c) (estimate_of r mass e1 ip1 f0 scal y cont m)
  unfolding estimate_of
  estimate-same r mass e1 ip1 f0 scal y cont m =
      let n = r.shape.n in
      let z = three m.z1 m.z2 m.z3 in
      let f1 = defect_of n r.numbers.h z m.f1 in
      let s = sides_of r.settings.mass n mass f0 f1 (sides m.f2 cont) in
      let d = solved_first n e1 ip1 s.cont in
      ap (λ (k : Logged Judged). noted error-solve (with_judged f1 s.f2 k))
      (tested-same (r ▸ in_counts one_lu) (error_of n scal d) z y d)

  pub refined-same : (r : Run) (e1 : List Float) (ip1 : List ℕ) (scal y cont : List Float) (m : Newton)
      → refined_of (run_by c r) e1 ip1 scal y cont m ≡ on_core (on_judged c) (refined_of r e1 ip1 scal y cont m)
  unfolding refined_of
  refined-same r e1 ip1 scal y cont m = judged-same r _ _ y _
