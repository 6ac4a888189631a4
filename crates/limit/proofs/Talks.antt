-- The talk under a larger limit: advance by advance the same, until the smaller limit ends it.
use Prim.Native.Nat.{ℕ, zero, suc, ◌+◌, ◌-◌, ◌≤◌, ◌<◌}
use mathlib.Core.Bool.{Bool, true, false, true≢false}
use mathlib.Core.Path.{◌≡◌, refl, sym, ap, ◌∙◌, subst}
use mathlib.Core.List.{List, [], ◌∷◌, ◌++◌, append_assoc}
use native.Mathlib.Omega.{arith}
use lib.Dec.{ltb}
use lib.ListN.{length}
use borrow.Author.Tests.{ltb-true, ltb-false}
use Rattle.state.specs.declared.settings.Settings.{Settings}
use Rattle.state.specs.declared.run.Run.{Run}
use Rattle.state.specs.declared.run.Stage.{Stage}
use Rattle.state.specs.declared.run.Stage.TheVariants as stage
use Rattle.state.specs.declared.talk.Place.{Place}
use Rattle.state.specs.declared.talk.Request.{Request}
use Rattle.state.specs.declared.talk.Request.TheVariants as request
use Rattle.state.specs.Memory.{Memory}
use Rattle.state.specs.Result.{result_at}
use Rattle.opening.specs.Rows.{Opening}
use Rattle.opening.specs.Opening.{opening_outcome, open_of}
use Rattle.solve_blocks.specs.Events.{Logged}
use Rattle.solve_blocks.specs.Advance.{Called, advance_by}
use Rattle.solve_blocks.proofs.AdvanceWhole.{whole_of}
use Rattle.history.specs.Host.{is_end, wrote}
use Rattle.history.specs.History.{Point, point, next_point}
use Rattle.solve_whole.specs.Talk.{Exchange, exchange, Host, World, Talk, talk, action_at, offered}
use Rattle.solve_whole.specs.Talk.{advanced_by, talk_by, Admits, FairTalk, TalksTo}
use Rattle.solve_whole.proofs.Talks.{first-end, at-end, one_end}
use Rattle.solve_whole.proofs.Offered.{last-advance, admitted-before}
use Rattle.solve_whole.proofs.HostsAlike.{talk-more}
use Rattle.solve_whole.proofs.Theorems.{solve-offered, solve-returns}
use Rattle.limit.specs.Limit.{run_with, point_with, opening_with, Raises, is_over, Begins, Opens}
use Rattle.limit.specs.Limit.{Unmoved, Continued}
use Rattle.limit.proofs.Openings.{opened_with, opening-same, first-limit, first-settings}
use Rattle.limit.proofs.Advances.{admits-more, settings-kept, ends_over, whole_same}
use Rattle.std.specs.Prelude.{Ok}
use Rattle.state.specs.Talk.{Verdict, call}

-- ---- one advance of a talk

-- a request that is not the end isn't the end with 2
not-over : (q : Request) → is_end q ≡ false → ends_over q ≡ false
unfolding is_end ends_over
not-over (request.Derivative x) e = refl
not-over (request.Jacobian x) e = refl
not-over (request.Report xold x _) e = refl
not-over (request.Ended s) e = absurd (true≢false e)

abbrev talk_with : ℕ → Talk → Talk
talk_with M t = talk (point_with M t.point) t.exchanges

module _ (host : Host) where
  -- the memory with what the host writes
  abbrev written : Talk → Memory
  written t = let here = t.point in wrote here.request here.place (action_at host t) here.memory

  -- an advance that is admitted, in one piece
  abbrev whole_at : Talk → Logged Called
  whole_at t = whole_of t.point.run (action_at host t).reply (written t)

  abbrev past : Talk → Logged Called → Talk
  past t l =
      let here = t.point in
      let d = l.core in
      talk (point d.call.run d.call.request d.call.place d.memory)
      (exchange here.request here.place here.memory (action_at host t) ∷ t.exchanges)

  advanced-is : (t : Talk) → Admits host t → advanced_by offered host t ≡ past t (whole_at t)
  unfolding advance_by next_point
  advanced-is t e =
      let here = t.point in
      let a = action_at host t in
      let es = exchange here.request here.place here.memory a ∷ t.exchanges in
      ap (λ (v : Verdict). let o = (advance_by v here.run a.reply (written t)).core in
      talk (next_point here o.answer o.memory) es)
      e

  -- exchanges are added, and none is lost
  grows : (k : ℕ) (t : Talk) → Begins t.exchanges (talk_by offered host k t).exchanges
  unfolding talk_by
  grows zero t = record { later = []; is = refl }
  grows (suc k) t =
      let g = grows k (advanced_by offered host t) in
      let a = exchange t.point.request t.point.place t.point.memory (action_at host t) in
      record {
        later = g.later ++ (a ∷ []);
        is = g.is ∙ sym (append_assoc g.later (a ∷ []) t.exchanges);
      }

  module _ (M : ℕ) (permitted : M ≤ 1_000_000) where
    -- the reply is admitted, within the limit M too, and the smaller limit doesn't end the run
    record Steady (t : Talk) : Type 0 where
      within : t.point.run.settings.max_steps ≤ M
      passed : Admits host t
      going : ends_over (advanced_by offered host t).point.request ≡ false

    advanced-same : (t : Talk) → Steady t
        → advanced_by offered host (talk_with M t) ≡ talk_with M (advanced_by offered host t)
    advanced-same t s =
        let r = t.point.run in
        let a = action_at host t in
        let is = advanced-is t s.passed in
        let going = subst (λ (u : Talk). ends_over u.point.request ≡ false) is s.going in
        advanced-is (talk_with M t) (admits-more M r a.reply (written t) s.within permitted s.passed)
        ∙ ap (past t) (whole_same M r a.reply (written t) s.passed s.within going)
        ∙ ap (talk_with M) (sym is)

    talk-same : (k : ℕ) (t : Talk) → ((j : ℕ) → j < k → Steady (talk_by offered host j t))
        → talk_by offered host k (talk_with M t) ≡ talk_with M (talk_by offered host k t)
    unfolding talk_by
    talk-same zero t steady = refl
    talk-same (suc k) t steady =
        ap (talk_by offered host k) (advanced-same t (steady 0 (omega arith)))
        ∙ talk-same k (advanced_by offered host t) (λ j l. steady (suc j) (omega (arith, l)))

-- ---- from an opening to the end

-- what a run that has ended tells holds no limit
result-same : (M : ℕ) (e : Run) (s : Stage) → result_at (run_with M e) s ≡ result_at e s
unfolding result_at
result-same M e stage.FirstDerivative = refl
result-same M e stage.FirstReport = refl
result-same M e stage.FirstDerivativeAgain = refl
result-same M e stage.Jacobian = refl
result-same M e (stage.Column c) = refl
result-same M e stage.Newton1 = refl
result-same M e stage.Newton2 = refl
result-same M e stage.Newton3 = refl
result-same M e stage.Refinement = refl
result-same M e stage.Accepted = refl
result-same M e stage.Report = refl
result-same M e stage.DerivativeAgain = refl
result-same M e (stage.Ended s) = refl

module _ (M : ℕ) (host : Host) (o : Opening) (r : Run) (q : Request) (p : Place) (m : Memory)
    (accepted : open_of o ≡ opening_outcome (Ok (call r q p)) m) (raises : Raises o.settings.max_steps M)
    (fair : FairTalk host (point r q p m)) (e : Run) (w : World) (a : TalksTo offered host (point r q p m) e w) where
  abbrev start : Point
  start = point r q p m

  opens : Opens M o start
  opens =
      opening-same M o (first-limit o r q p m accepted) raises.larger raises.permitted
      ∙ ap (opened_with M) accepted

  -- after k advances, with the one limit and with the other
  abbrev at : ℕ → Talk
  at k = talk_by offered host k (talk start [])

  abbrev at' : ℕ → Talk
  at' k = talk_by offered host k (talk (point_with M start) [])

  abbrev long : ℕ
  long = length w.exchanges

  passed-at : (k : ℕ) → k < long → Admits host (at k)
  passed-at k l = admitted-before host o r q p m accepted fair k (λ i h. a.before i (omega (arith, h, l)))

  next-at : (k : ℕ) → at (suc k) ≡ advanced_by offered host (at k)
  next-at k = last-advance offered host k (talk start [])

  -- up to the end the settings are the opening's
  settings-at : (k : ℕ) → k ≤ long → (at k).point.run.settings ≡ o.settings
  unfolding talk_by
  settings-at zero l = first-settings o r q p m accepted
  settings-at (suc k) l =
      let passed = passed-at k (omega (arith, l)) in
      ap (λ (t : Talk). t.point.run.settings) (next-at k ∙ advanced-is host (at k) passed)
      ∙ settings-kept (at k).point.run (action_at host (at k)).reply (written host (at k)) passed
      ∙ settings-at k (omega (arith, l))

  steady-at : (k : ℕ) → k < long → ends_over (at (suc k)).point.request ≡ false
      → Steady host M raises.permitted (at k)
  steady-at k l going =
      record {
        within =
            subst (λ (s : Settings). s.max_steps ≤ M) (sym (settings-at k (omega (arith, l)))) raises.larger;
        passed = passed-at k l;
        going = subst (λ (t : Talk). ends_over t.point.request ≡ false) (next-at k) going;
      }

  -- before the last advance the limit decides nothing
  same-before : (k : ℕ) → k < long → at' k ≡ talk_with M (at k)
  same-before k l =
      talk-same host M raises.permitted k (talk start [])
      (λ j h. steady-at j (omega (arith, h, l)) (not-over _ (a.before (suc j) (omega (arith, h, l)))))

  -- ---- any status but 2

  module _ (other : is_over a.status ≡ false) where
    end-other : ends_over (request.Ended a.status) ≡ false
    unfolding ends_over
    end-other = other

    going : (i : ℕ) → i ≤ long → ends_over (at i).point.request ≡ false
    going i h = by (ltb i long) refl
      where
        last : ends_over (at long).point.request ≡ false
        last = ap (λ (t : Talk). ends_over t.point.request) a.talks ∙ end-other

        by : (b : Bool) → ltb i long ≡ b → ends_over (at i).point.request ≡ false
        by true u = not-over _ (a.before i (ltb-true i long u))
        by false u =
            let same : long ≡ i = omega (arith, h, ltb-false i long u) in
            subst (λ (k : ℕ). ends_over (at k).point.request ≡ false) same last

    same-all : (k : ℕ) → k ≤ long → at' k ≡ talk_with M (at k)
    same-all k l =
        talk-same host M raises.permitted k (talk start [])
        (λ j h. steady-at j (omega (arith, h, l)) (going (suc j) (omega (arith, h, l))))

    talks : TalksTo offered host (point_with M start) (run_with M e) w
    talks =
        record {
          status = a.status;
          stage = a.stage;
          talks = same-all long (omega arith) ∙ ap (talk_with M) a.talks;
          before = λ j l.
              ap (λ (t : Talk). is_end t.point.request) (same-all j (omega (arith, l))) ∙ a.before j l;
        }

    pub raising-keeps-proof : Unmoved M host o start e w
    raising-keeps-proof =
        record {
          opens = opens;
          talks = talks;
          only = λ f v b. one_end offered host (point_with M start) f (run_with M e) v w b talks;
          result = result-same M e e.stage;
        }

  -- ---- any status, so 2: what was exchanged is the beginning of the longer run's

  exchanged : (at' long).exchanges ≡ w.exchanges
  unfolding talk_by
  exchanged = by long refl
    where
      by : (k : ℕ) → long ≡ k → (at' k).exchanges ≡ w.exchanges
      by zero is = ap (λ (t : Talk). t.exchanges) (ap at (sym is) ∙ a.talks)
      by (suc k) is =
          ap (λ (t : Talk). t.exchanges)
          (last-advance offered host k (talk (point_with M start) [])
          ∙ ap (advanced_by offered host) (same-before k (omega (arith, is))))
          ∙ ap (λ (t : Talk). t.exchanges) (sym (next-at k) ∙ ap at (sym is) ∙ a.talks)

  begins : (f : Run) (v : World) → TalksTo offered host (point_with M start) f v → Begins w.exchanges v.exchanges
  begins f v b =
      let k = length v.exchanges in
      let ends = at-end offered host (point_with M start) f v b in
      let l : long ≤ k = first-end offered host (point_with M start) k long ends
      (λ j h. ap (λ (t : Talk). is_end t.point.request) (same-before j h) ∙ a.before j h) in
      let d = k - long in
      let whole : k ≡ long + d = omega (arith, l) in
      let g = grows host d (at' long) in
      record {
        later = g.later;
        is = sym (ap (λ (t : Talk). t.exchanges) b.talks)
            ∙ ap (λ (i : ℕ). (at' i).exchanges) whole
            ∙ ap (λ (t : Talk). t.exchanges) (talk-more offered host long d (talk (point_with M start) []))
            ∙ g.is
            ∙ ap (λ (es : List Exchange). g.later ++ es) exchanged;
      }

  module _ (fair' : FairTalk host (point_with M start)) where
    -- the longer run returns, since its opening is accepted and its host is fair
    pub raising-continues-proof : Continued M host o start w
    raising-continues-proof =
        let o' = opening_with M o in
        let returned = solve-returns host o' (run_with M r) q p m opens fair' in
        let b =
        (solve-offered host o' (run_with M r) q p m opens fair' returned.run returned.world).0
        returned.returns in
        record {
          opens = opens;
          run = returned.run;
          world = returned.world;
          talks = b;
          only = λ f v c. one_end offered host (point_with M start) f returned.run v returned.world c b;
          begins = begins returned.run returned.world b;
        }
