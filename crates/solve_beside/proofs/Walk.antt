-- Two runs side by side, one advance of each: block by block along the definitions the one goes where the other goes,
-- with the same requests, events and memory, where each block that looks at what differs finds the same.
--     RuleSame     what is asked of the two rules
--     BuiltSame    what is asked of the two Jacobians where E1 and E2 are made, and
--     At           where a column of theirs is written, at the stage that waits for the reply
--     Agree        what is asked of the step past the matrices: of the two sources, of the two limits
use Prim.Native.Nat.{ℕ, ◌+◌}
use mathlib.Core.Path.{◌≡◌, refl, ap, ◌∙◌}
use mathlib.Core.Bool.{Bool}
use mathlib.Core.List.{List, [], ◌∷◌, ◌++◌}
use lib.Dec.{ltb}
use lib.Ieee.{Float, le}
use Rattle.words.specs.Words.{◌⊗◌}
use Rattle.words.specs.Constants.{«0·1»}
use Rattle.words.specs.Loop.{pick}
use Rattle.scalar.specs.Order.{abs_of}
use Rattle.state.specs.declared.run.Run.{Run}
use Rattle.state.specs.declared.run.Status.TheVariants.{NeedLargerNMax, StepSizeTooSmall}
use Rattle.state.specs.declared.run.Stage.{Stage}
use Rattle.state.specs.declared.run.Stage.TheVariants as stage
use Rattle.state.specs.declared.talk.Reply.{Reply}
use Rattle.state.specs.Memory.{Memory, memory, amounts, Newton, Differences}
use Rattle.state.specs.MemorySetters.{set_cont, set_y_cont, set_f12, set_newton, set_differences, set_column}
use Rattle.opening.specs.Rows.{verdict_of}
use Rattle.opening.specs.Admission.{admission_rows}
use Rattle.solve_blocks.specs.declared.step.Heard.{Heard}
use Rattle.solve_blocks.specs.declared.step.Heard.TheVariants as heard
use Rattle.solve_blocks.specs.declared.step.Round.{Round}
use Rattle.solve_blocks.specs.declared.step.Round.TheVariants as round
use Rattle.solve_blocks.specs.declared.step.Step.{Step}
use Rattle.solve_blocks.specs.declared.step.Step.TheVariants as step
use Rattle.solve_blocks.specs.Setters.{◌▸◌, in_counts, one_total}
use Rattle.solve_blocks.specs.Events.{over-limit, too_small, begun, Logged, logged, quiet, and_then}
use Rattle.solve_blocks.specs.Matrices.{ended_of}
use Rattle.solve_blocks.specs.Attempt.{ask_stage_of, Begun, begun_as, began_of, attempt_of}
use Rattle.solve_blocks.specs.Newton.{RoundDone, round_of, Resumed}
use Rattle.solve_blocks.specs.Judge.{Judged, Estimated}
use Rattle.solve_blocks.specs.Report.{ask_report, reported_of}
use Rattle.solve_blocks.specs.Jacobian.{Asking, ask_jacobian_by, Columned}
use Rattle.solve_blocks.specs.Advance.{Stepped, stepped, in_memory, Called, called, started_of, returned_of}
use Rattle.solve_blocks.specs.Advance.{conclude_of}
use Rattle.solve_blocks.specs.Advance.{replied_of, passed_of, called_of}
use Rattle.solve_blocks.specs.Needs.{StepFit}
use Rattle.solve_blocks.proofs.AdvanceWhole.{whole_of}
use Rattle.solve_blocks.proofs.AdmittedLaws.{admitted}
use Rattle.solve_blocks.proofs.RepliedLaws.{replied-fit}
use Rattle.solve_beside.specs.Changes.{Changes, run_by, memory_by, called_by}
use Rattle.solve_beside.proofs.Branches.{pick-maps, on_core}
use Rattle.solve_beside.proofs.Carried.{on_step, on_round, on_begun, on_asking, on_stepped, RuleSame}
use Rattle.solve_beside.proofs.Passes.{StepOf, BuiltSame, passed-same}
use Rattle.solve_beside.proofs.Rounds.{round_same, again-same}
use Rattle.solve_beside.proofs.Judgement.{estimate-same, refined-same}
use Rattle.solve_beside.proofs.Reports.{ColumnsSame, reported-same, arrived-same, started-same, returned-same}
use Rattle.solve_beside.proofs.Reports.{column-same}
use Rattle.state.specs.Talk.{passed_all}

-- ---- what is asked of the changes

unfoldable pub At : Changes → Stage → Type 0
At c stage.FirstDerivative = Unit
At c stage.FirstReport = Unit
At c stage.FirstDerivativeAgain = Unit
At c stage.Jacobian = Unit
At c (stage.Column k) = ColumnsSame c
At c stage.Newton1 = Unit
At c stage.Newton2 = Unit
At c stage.Newton3 = Unit
At c stage.Refinement = Unit
At c stage.Accepted = Unit
At c stage.Report = Unit
At c stage.DerivativeAgain = Unit
At c (stage.Ended s) = Unit

-- the Jacobian is asked for in the same way
abbrev pub SourceSame : Changes → Run → Type 0
SourceSame c r =
    (y : List Float) (d : Differences)
    → ask_jacobian_by (c.source r.settings.source) (run_by c r) y d
    ≡ on_asking c (ask_jacobian_by r.settings.source r y d)

-- the attempt is within both limits or within neither
abbrev pub LimitSame : Changes → Run → Type 0
LimitSame c r =
    ltb (c.limit r.settings.max_steps) (r.counts.total + 1)
    ≡ ltb r.settings.max_steps (r.counts.total + 1)

unfoldable pub Agree : Changes → Step → Type 0
Agree c (step.Asked a) = Unit
Agree c (step.Main r) = SourceSame c r
Agree c (step.Matrices r) = SourceSame c r
Agree c (step.Attempt r) = LimitSame c r

-- where the reply leads, and past the matrices
abbrev pub step_after : Run → Reply → Memory → Step
step_after r p m = (replied_of r.stage p r m).core.step

abbrev pub step_past : Run → Reply → Memory → Step
step_past r p m = (passed_of (replied_of r.stage p r m).core).core.step

fit-of : (n : ℕ) (s : Step) → StepFit 14 n s → StepOf n s
unfolding StepFit StepOf
fit-of n (step.Asked a) f = tt
fit-of n (step.Main r) f = f.order
fit-of n (step.Matrices r) f = f.order
fit-of n (step.Attempt r) f = f.order

module _ (c : Changes) (rules : RuleSame c) where
  -- ---- from a reply to a label

  conclude-same : (v : Round) (m : Memory)
      → conclude_of (on_round c v) (memory_by c m) ≡ on_core (on_stepped c) (conclude_of v m)
  unfolding conclude_of
  conclude-same (round.Newton r) m =
      ap (λ (a : Logged Resumed). logged (stepped a.core.step (set_cont a.core.cont (memory_by c m))) a.log)
      (again-same c rules r m.amounts.y m.newton.z1 m.amounts.cont)
  conclude-same (round.Estimate r) m =
      ap (λ (l : Logged Estimated). logged (stepped l.core.step
      (set_f12 l.core.f1 l.core.f2 (set_y_cont l.core.y l.core.cont (memory_by c m)))) l.log)
      (estimate-same c rules r m.given.mass m.factors.e1 m.factors.ip1 m.amounts.f0 m.amounts.scal
      m.amounts.y m.amounts.cont m.newton)
  conclude-same (round.Over s) m = refl

  replied-same : (s : Stage) → At c s → (p : Reply) (r : Run) (m : Memory)
      → replied_of s p (run_by c r) (memory_by c m) ≡ on_core (on_stepped c) (replied_of s p r m)
  unfolding replied_of ask_stage_of ask_report At
  replied-same stage.FirstDerivative a p r m = refl
  replied-same stage.FirstReport a p r m =
      ap quiet
      (ap (λ (t : Heard). started_of t (memory_by c m)) (reported-same c stage.FirstDerivativeAgain p r)
      ∙ started-same c (reported_of stage.FirstDerivativeAgain p r) m)
  replied-same stage.FirstDerivativeAgain a p r m = ap quiet (started-same c (heard.Reported r) m)
  replied-same stage.Jacobian a p r m = refl
  replied-same (stage.Column k) a p r m =
      ap (λ (d : Columned). quiet (stepped d.step (set_column d.y_perturbed d.jac m)))
      (column-same c a k r m.amounts.y m.differences.y_perturbed m.differences.f_perturbed
      m.differences.f_origin m.given.jac)
  replied-same stage.Newton1 a p r m = refl
  replied-same stage.Newton2 a p r m = refl
  replied-same stage.Newton3 a p r m =
      let l = round_of r m.given.mass m.amounts.scal m.factors m.newton in
      ap (λ (k : Logged RoundDone). and_then k
      (λ (v : RoundDone). conclude_of v.round (set_newton v.newton (memory_by c m))))
      (round_same c rules r m.given.mass m.amounts.scal m.factors m.newton)
      ∙ ap (λ (k : Logged Stepped). logged k.core (l.log ++ k.log))
      (conclude-same l.core.round (set_newton l.core.newton m))
  replied-same stage.Refinement a p r m =
      ap (λ (l : Logged Judged). logged
      (stepped l.core.step (set_y_cont l.core.y l.core.cont (memory_by c m))) l.log)
      (refined-same c rules r m.factors.e1 m.factors.ip1 m.amounts.scal m.amounts.y m.amounts.cont
      m.newton)
  replied-same stage.Accepted a p r m = refl
  replied-same stage.Report a p r m =
      ap (in_memory (memory_by c m))
      (ap returned_of (reported-same c stage.DerivativeAgain p r)
      ∙ returned-same c (reported_of stage.DerivativeAgain p r))
  replied-same stage.DerivativeAgain a p r m = ap (in_memory (memory_by c m)) (arrived-same c r)
  replied-same (stage.Ended s) a p r m = refl

  -- ---- from a label to the next request

  attempt-same : (r : Run) (y scal cont : List Float) (m : Newton) → LimitSame c r
      → attempt_of (run_by c r) y scal cont m ≡ on_core (on_begun c) (attempt_of r y scal cont m)
  unfolding attempt_of began_of ask_stage_of
  attempt-same r y scal cont m both =
      let s = run_by c (r ▸ in_counts one_total) in
      let h = r.numbers.h in
      let x = r.numbers.x in
      ap (λ (b : Bool). pick b (logged (begun_as (ended_of NeedLargerNMax s) scal cont m) (over-limit ∷ []))
      (pick (le («0·1» ⊗ abs_of h) (abs_of x ⊗ r.settings.uround))
      (logged (begun_as (ended_of StepSizeTooSmall s) scal cont m) (too_small h x ∷ []))
      (logged (began_of s y scal cont m) (begun h x ∷ []))))
      both
      ∙ pick-maps (on_core (on_begun c)) _ refl (pick-maps (on_core (on_begun c)) _ refl refl)

  called_same : (s : Step) (m : Memory) → Agree c s
      → called_of (on_step c s) (memory_by c m) ≡ on_core (called_by c) (called_of s m)
  unfolding called_of Agree
  called_same (step.Asked a) m both = refl
  called_same (step.Main r) m both =
      ap (λ (a : Asking). quiet (called a.call (set_differences a.differences (memory_by c m))))
      (both m.amounts.y m.differences)
  called_same (step.Matrices r) m both =
      ap (λ (a : Asking). quiet (called a.call (set_differences a.differences (memory_by c m))))
      (both m.amounts.y m.differences)
  called_same (step.Attempt r) m both =
      let g = memory_by c m in
      ap (λ (b : Logged Begun). logged (called b.core.call (memory
      (amounts m.amounts.y m.amounts.f0 b.core.scal b.core.cont)
      b.core.newton g.given m.factors m.differences)) b.log)
      (attempt-same r m.amounts.y m.amounts.scal m.amounts.cont m.newton both)

  -- ---- the advance

  whole_same : (n : ℕ) (r : Run) (p : Reply) (m : Memory) → BuiltSame c n → At c r.stage
      → StepOf n (step_after r p m) → Agree c (step_past r p m)
      → whole_of (run_by c r) p (memory_by c m) ≡ on_core (called_by c) (whole_of r p m)
  whole_same n r p m built at order both =
      let l = replied_of r.stage p r m in
      let t = passed_of l.core in
      ap (λ (k : Logged Stepped). and_then (and_then k passed_of) (λ (t : Stepped). called_of t.step t.memory))
      (replied-same r.stage at p r m)
      ∙ ap (λ (k : Logged Stepped). and_then (logged k.core (l.log ++ k.log))
      (λ (t : Stepped). called_of t.step t.memory))
      (passed-same c rules n built l.core order)
      ∙ ap (λ (k : Logged Called). logged k.core (l.log ++ t.log ++ k.log))
      (called_same t.core.step t.core.memory both)

  -- an advance that is admitted leaves the order of its run as it was
  pub advance-same : (r : Run) (p : Reply) (m : Memory) → verdict_of (admission_rows r p m) ≡ passed_all
      → BuiltSame c r.shape.n → At c r.stage → Agree c (step_past r p m)
      → whole_of (run_by c r) p (memory_by c m) ≡ on_core (called_by c) (whole_of r p m)
  advance-same r p m passed built at both =
      let n = r.shape.n in
      let a = admitted r p m passed in
      whole_same n r p m built at (fit-of n _ (replied-fit n m p r a.fit a.stage.rounds _ refl)) both
