-- Two hosts that do the same wherever a talk stands have that talk in common; and past its end nothing changes
-- there but the exchanges.
use Prim.Native.Nat.{ℕ, zero, suc, ◌+◌, ◌-◌, ◌≤◌, ◌<◌}
use mathlib.Core.Bool.{true}
use mathlib.Core.Path.{◌≡◌, refl, sym, ap, ◌∙◌}
use mathlib.Core.List.{[], ◌∷◌}
use native.Mathlib.Omega.{arith}
use lib.ListN.{length}
use Rattle.words.specs.Loop.{loop, pick}
use Rattle.state.specs.declared.run.Run.{Run}
use Rattle.state.specs.declared.run.Stage.{Stage}
use Rattle.state.specs.declared.run.Stage.TheVariants as stage
use Rattle.state.specs.declared.run.Status.{Status}
use Rattle.state.specs.declared.talk.Place.TheVariants.{Nowhere}
use Rattle.state.specs.declared.talk.Reply.{Reply}
use Rattle.state.specs.declared.talk.Request.TheVariants as request
use Rattle.state.specs.Memory.{Memory}
use Rattle.opening.specs.Rows.{verdict_of}
use Rattle.opening.specs.Admission.{admission_rows}
use Rattle.solve_blocks.specs.Setters.{at_stage}
use Rattle.solve_blocks.specs.Matrices.{passes_of, pass_at}
use Rattle.solve_blocks.specs.Advance.{replied_of, called_of, advance_by}
use Rattle.history.specs.Host.{is_end, Action, wrote}
use Rattle.history.specs.History.{Point, point, next_point}
use Rattle.solve_whole.specs.Talk.{exchange, Host, World, Talk, talk, action_at}
use Rattle.solve_whole.specs.Talk.{Advance, offered, advanced_by, talk_by, TalksTo}
use Rattle.solve_whole.proofs.FollowsTalk.{finish}
use Rattle.std.specs.Prelude.{Ok, Err}
use Rattle.state.specs.Talk.{Verdict}

-- ---- hosts that do the same

-- where what is done here leads
abbrev past_by : Advance → Talk → Action → Talk
past_by advance t a =
    let here = t.point in
    let o = advance here.run a.reply (wrote here.request here.place a here.memory) in
    talk (next_point here o.answer o.memory)
    (exchange here.request here.place here.memory a ∷ t.exchanges)

pub hosts-alike : (advance : Advance) (f g : Host) (k : ℕ) (t : Talk)
    → ((j : ℕ) → j < k → action_at f (talk_by advance f j t) ≡ action_at g (talk_by advance f j t))
    → talk_by advance f k t ≡ talk_by advance g k t
unfolding talk_by
hosts-alike advance f g zero t same = refl
hosts-alike advance f g (suc k) t same =
    hosts-alike advance f g k (advanced_by advance f t) (λ j l. same (suc j) (omega arith))
    ∙ ap (λ (a : Action). talk_by advance g k (past_by advance t a)) (same 0 (omega arith))

-- ---- past the end

-- the talk after l and d more advances
pub talk-more : (advance : Advance) (host : Host) (l d : ℕ) (t : Talk)
    → talk_by advance host (l + d) t ≡ talk_by advance host d (talk_by advance host l t)
unfolding talk_by
talk-more advance host zero d t = let e : 0 + d ≡ d = omega arith in ap (λ (k : ℕ). talk_by advance host k t) e
talk-more advance host (suc l) d t =
    let e : suc l + d ≡ suc (l + d) = omega arith in
    ap (λ (k : ℕ). talk_by advance host k t) e ∙ talk-more advance host l d (advanced_by advance host t)

module _ (host : Host) (s : Status) (e : Run) (m : Memory) (ended : e.stage ≡ stage.Ended s) where
  abbrev here : Point
  here = point e (request.Ended s) Nowhere m

  -- where a reply that is admitted leads from a stage
  abbrev from : Stage → Reply → Point
  from g a =
      let d = finish (replied_of g a e m).core in point d.call.run d.call.request d.call.place d.memory

  from-ended : (a : Reply) → from (stage.Ended s) a ≡ point (at_stage (stage.Ended s) e) (request.Ended s) Nowhere m
  unfolding replied_of called_of passes_of pass_at loop pick
  from-ended a = refl

  -- an advance is refused, or it ends the run once more
  stays_by : (v : Verdict) (a : Reply)
      → (let o = (advance_by v e a m).core in next_point here o.answer o.memory) ≡ here
  unfolding advance_by next_point
  stays_by (Err x) a = refl
  stays_by (Ok tt) a =
      ap (λ (g : Stage). from g a) ended ∙ from-ended a
      ∙ ap (λ (g : Stage). point (at_stage g e) (request.Ended s) Nowhere m) (sym ended)

  stays : (k : ℕ) (t : Talk) → t.point ≡ here → (talk_by offered host k t).point ≡ here
  unfolding talk_by wrote
  stays zero t is = is
  stays (suc k) t is =
      let a = action_at host t in
      stays k (advanced_by offered host t)
      (ap (λ (p : Point). (past_by offered (talk p t.exchanges) a).point) is
      ∙ stays_by (verdict_of (admission_rows e a.reply m)) a.reply)

-- so it has ended at every later point too
pub still-ended : (host : Host) (start : Point) (e : Run) (w : World) → TalksTo offered host start e w
    → (k : ℕ) → length w.exchanges ≤ k → is_end (talk_by offered host k (talk start [])).point.request ≡ true
unfolding is_end
still-ended host start e w a k later =
    let l = length w.exchanges in
    let all : k ≡ l + (k - l) = omega arith in
    ap (λ (i : ℕ). is_end (talk_by offered host i (talk start [])).point.request) all
    ∙ ap (λ (t : Talk). is_end t.point.request) (talk-more offered host l (k - l) (talk start []))
    ∙ ap (λ (here : Point). is_end here.request)
    (stays host a.status e w.memory a.stage (k - l) _ (ap (λ (t : Talk). t.point) a.talks))
