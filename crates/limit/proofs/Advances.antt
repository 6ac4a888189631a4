-- One advance under a larger limit: it is admitted where it was, and it does the same unless the smaller limit ended
-- the run there.
use Prim.Native.Nat.{ℕ, ◌+◌, ◌*◌, ◌≤◌}
use mathlib.Core.Path.{◌≡◌, refl, sym, ap, ◌∙◌, subst}
use mathlib.Core.Bool.{Bool, true, false, not, ◌&&◌, true≢false}
use mathlib.Core.List.{List}
use native.Mathlib.Nat.{mul-le-mul_left}
use native.Mathlib.Omega.{arith}
use lib.Dec.{ltb}
use lib.Ieee.{Float}
use borrow.Author.Tests.{ltb-false, le-ltb}
use Rattle.words.proofs.Branch.{pick_all}
use Rattle.state.specs.declared.settings.Settings.{Settings}
use Rattle.state.specs.declared.settings.Rule.{Rule}
use Rattle.state.specs.declared.settings.Rule.TheVariants as rule
use Rattle.state.specs.declared.settings.Source.{Source}
use Rattle.state.specs.declared.settings.Source.TheVariants as source
use Rattle.state.specs.declared.run.Run.{Run}
use Rattle.state.specs.declared.run.Stage.{Stage}
use Rattle.state.specs.declared.run.Stage.TheVariants as stage
use Rattle.state.specs.declared.talk.Reply.{Reply}
use Rattle.state.specs.declared.talk.Request.{Request}
use Rattle.state.specs.declared.talk.Request.TheVariants as request
use Rattle.state.specs.Memory.{Memory, Newton, Differences}
use Rattle.opening.specs.Rows.{verdict_of}
use Rattle.opening.specs.Admission.{admission_rows, asking_at}
use Rattle.opening.proofs.RowLaws.{verdict-first-proof}
use Rattle.opening.proofs.OpeningLaws.{within}
use Rattle.solve_blocks.specs.declared.step.Step.{Step}
use Rattle.solve_blocks.specs.declared.step.Step.TheVariants as step
use Rattle.solve_blocks.specs.Events.{Logged}
use Rattle.solve_blocks.specs.Matrices.{run_of}
use Rattle.solve_blocks.specs.Newton.{slow_round}
use Rattle.solve_blocks.specs.Attempt.{ask_stage_of, Begun, began_of, attempt_of}
use Rattle.solve_blocks.specs.Jacobian.{ask_jacobian_by}
use Rattle.solve_blocks.specs.Advance.{replied_of, passed_of, called_of}
use Rattle.solve_blocks.proofs.AdvanceWhole.{whole_of}
use Rattle.solve_blocks.proofs.EveryRule.{KeptAt, kept-closed, everyway}
use Rattle.solve_beside.specs.Changes.{called_by}
use Rattle.solve_beside.proofs.Branches.{on_core}
use Rattle.solve_beside.proofs.Carried.{on_round, on_asking, RuleSame}
use Rattle.solve_beside.proofs.Walk.{At, Agree, advance-same}
use Rattle.account.proofs.Admits.{over, no_row}
use Rattle.limit.specs.Limit.{to_limit, run_with, is_over}
use Rattle.state.specs.Talk.{passed_all}

-- ---- admitted

-- a test of a count against a bound that grew
below_more : (a b c : ℕ) → a ≤ b → ltb a c ≡ false → ltb b c ≡ false
below_more a b c l e = le-ltb b c (let h = ltb-false a c e in omega (arith, l, h))

unless-more : (a b c : ℕ) (t : Bool) → a ≤ b → (ltb a c && t) ≡ false → (ltb b c && t) ≡ false
unless-more a b c t l e = by (ltb a c) refl (ltb b c) refl
  where
    by : (u : Bool) → ltb a c ≡ u → (v : Bool) → ltb b c ≡ v → (ltb b c && t) ≡ false
    by true p true q = ap (λ (x : Bool). x && t) (q ∙ sym p) ∙ e
    by true p false q = ap (λ (x : Bool). x && t) q
    by false p v q = ap (λ (x : Bool). x && t) (below_more a b c l p)

module _ (M : ℕ) (r : Run) (p : Reply) (m : Memory) (more : r.settings.max_steps ≤ M) (permitted : M ≤ 1_000_000)
  where
    -- the rows in their order, of which six look at the limit
    pub admits-more : verdict_of (admission_rows r p m) ≡ passed_all → verdict_of (admission_rows (run_with M r) p m) ≡
        passed_all
    admits-more e =
        let none = (verdict-first-proof (admission_rows r p m)).1.0 e in
        let least = (within 1 1_000_000 r.settings.max_steps (none 2 (omega arith))).0 in
        let K = r.settings.newton_maxiter in
        let ode : 2 + 3 * (K + 1) * r.settings.max_steps ≤ 2 + 3 * (K + 1) * M =
        omega (arith, mul-le-mul_left (3 * (K + 1)) more) in
        over _ _ (none 0 (omega arith))
        (over _ _ (none 1 (omega arith))
        (over _ _ (rw (le-ltb M 1 (omega (arith, least, more)), le-ltb 1_000_000 M permitted) refl)
        (over _ _ (none 3 (omega arith))
        (over _ _ (none 4 (omega arith))
        (over _ _ (none 5 (omega arith))
        (over _ _ (none 6 (omega arith))
        (over _ _ (none 7 (omega arith))
        (over _ _ (unless-more _ _ r.counts.total (not (asking_at r.stage).ended) more (none 8 (omega arith)))
        (over _ _ (none 9 (omega arith))
        (over _ _ (none 10 (omega arith))
        (over _ _ (none 11 (omega arith))
        (over _ _ (none 12 (omega arith))
        (over _ _ (none 13 (omega arith))
        (over _ _ (below_more _ _ r.counts.ode ode (none 14 (omega arith)))
        (over _ _ (below_more _ _ r.counts.jac (omega (arith, more)) (none 15 (omega arith)))
        (over _ _ (below_more _ _ r.counts.lu (omega (arith, more)) (none 16 (omega arith)))
        (over _ _ (below_more _ _ r.counts.accepted more (none 17 (omega arith)))
        (over _ _ (below_more _ _ r.counts.rejected (omega (arith, more)) (none 18 (omega arith)))
        (over _ _ (none 19 (omega arith))
        (over _ _ (none 20 (omega arith))
        (over _ _ (none 21 (omega arith)) no_row)))))))))))))))))))))

-- ---- the settings are kept

module _ (r : Run) (p : Reply) (m : Memory) (passed : verdict_of (admission_rows r p m) ≡ passed_all) where
  pub settings-kept : (whole_of r p m).core.call.run.settings ≡ r.settings
  unfolding KeptAt
  settings-kept = (everyway r p m passed (kept-closed r p _ _) (refl, (refl, refl))).0

-- nor does a block past the matrices write them
asked-settings : (from : Source) (r : Run) (y : List Float) (d : Differences)
    → (ask_jacobian_by from r y d).call.run.settings ≡ r.settings
unfolding ask_jacobian_by
asked-settings source.Host r y d = refl
asked-settings source.Differences r y d = refl

attempt-settings : (r : Run) (y scal cont : List Float) (m : Newton)
    → (attempt_of r y scal cont m).core.call.run.settings ≡ r.settings
unfolding attempt_of began_of ask_stage_of
attempt-settings r y scal cont m =
    let P : Logged Begun → Type 0 = λ l. l.core.call.run.settings ≡ r.settings in
    pick_all P _ _ _ (λ _. refl) (λ _. pick_all P _ _ _ (λ _. refl) (λ _. refl))

called-settings : (s : Step) (m : Memory) → (called_of s m).core.call.run.settings ≡ (run_of s).settings
unfolding called_of
called-settings (step.Asked c) m = refl
called-settings (step.Main r) m = asked-settings r.settings.source r m.amounts.y m.differences
called-settings (step.Matrices r) m = asked-settings r.settings.source r m.amounts.y m.differences
called-settings (step.Attempt r) m =
    attempt-settings r m.amounts.y m.amounts.scal m.amounts.cont m.newton

-- ---- what the walk asks

-- the end with 2
unfoldable pub ends_over : Request → Bool
ends_over (request.Derivative x) = false
ends_over (request.Jacobian x) = false
ends_over (request.Report xold x offered) = false
ends_over (request.Ended s) = is_over s

-- an attempt that the limit doesn't end is within it
within-limit : (r : Run) (y scal cont : List Float) (m : Newton)
    → ends_over (attempt_of r y scal cont m).core.call.request ≡ false
    → ltb r.settings.max_steps (r.counts.total + 1) ≡ false
unfolding attempt_of ends_over
within-limit r y scal cont m =
    pick_all (λ (l : Logged Begun). ends_over l.core.call.request ≡ false
    → ltb r.settings.max_steps (r.counts.total + 1) ≡ false)
    (ltb r.settings.max_steps (r.counts.total + 1)) _ _ (λ _ no. absurd (true≢false no)) (λ e _. e)

module _ (M : ℕ) where
  source-same : (from : Source) (r : Run) (y : List Float) (d : Differences)
      → ask_jacobian_by from (run_with M r) y d ≡ on_asking (to_limit M) (ask_jacobian_by from r y d)
  unfolding ask_jacobian_by
  source-same source.Host r y d = refl
  source-same source.Differences r y d = refl

  slow-by : (q : Rule) (r : Run) → slow_round q (run_with M r) ≡ on_round (to_limit M) (slow_round q r)
  unfolding slow_round
  slow-by rule.Rust r = refl
  slow-by rule.Book r = refl

  rules-same : RuleSame (to_limit M)
  rules-same = record { missed = λ r. refl; slow = λ r. slow-by r.settings.rule r }

  at_every : (s : Stage) → At (to_limit M) s
  unfolding At
  at_every stage.FirstDerivative = tt
  at_every stage.FirstReport = tt
  at_every stage.FirstDerivativeAgain = tt
  at_every stage.Jacobian = tt
  at_every (stage.Column k) = λ n col p fp fo jac. refl
  at_every stage.Newton1 = tt
  at_every stage.Newton2 = tt
  at_every stage.Newton3 = tt
  at_every stage.Refinement = tt
  at_every stage.Accepted = tt
  at_every stage.Report = tt
  at_every stage.DerivativeAgain = tt
  at_every (stage.Ended s) = tt

  agrees : (s : Step) (m : Memory) → (run_of s).settings.max_steps ≤ M
      → ends_over (called_of s m).core.call.request ≡ false → Agree (to_limit M) s
  unfolding called_of Agree
  agrees (step.Asked c) m l e = tt
  agrees (step.Main r) m l e = source-same r.settings.source r
  agrees (step.Matrices r) m l e = source-same r.settings.source r
  agrees (step.Attempt r) m l e =
      let w = within-limit r m.amounts.y m.amounts.scal m.amounts.cont m.newton e in
      below_more r.settings.max_steps M (r.counts.total + 1) l w ∙ sym w

  -- ---- the same

  pub whole_same : (r : Run) (p : Reply) (m : Memory) → verdict_of (admission_rows r p m) ≡ passed_all
      → r.settings.max_steps ≤ M → ends_over (whole_of r p m).core.call.request ≡ false
      → whole_of (run_with M r) p m ≡ on_core (called_by (to_limit M)) (whole_of r p m)
  whole_same r p m passed more going =
      let t = (passed_of (replied_of r.stage p r m).core).core in
      let kept : (run_of t.step).settings ≡ r.settings =
      sym (called-settings t.step t.memory) ∙ settings-kept r p m passed in
      let within = subst (λ (s : Settings). s.max_steps ≤ M) (sym kept) more in
      advance-same (to_limit M) rules-same r p m passed (λ mode mass jac h x. refl) (at_every r.stage)
      (agrees t.step t.memory within going)
