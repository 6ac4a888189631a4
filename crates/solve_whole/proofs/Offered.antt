-- `solve` and the advances as they are offered, for every accepted opening and every host that is fair: the theorem of
-- Talks.antt and the account's in one.
--     solve-offered-proof   `solve` returns with e and w exactly where the advances as they are offered talk to them
--     solve-returns-proof   and it does return, with fewer calls of the host than the account allows
-- A journal goes beside the talk: what the host does after k exchanges is done by a strategy at k turns, so the
-- account holds of the talk.
use Prim.Native.Nat.{ℕ, zero, suc, ◌+◌, ◌*◌, ◌≤◌, ◌<◌}
use mathlib.Core.Bool.{true, false}
use mathlib.Core.Path.{◌≡◌, refl, sym, ap, ap₂, ◌∙◌, subst}
use mathlib.Core.Logic.{◌↔◌}
use mathlib.Core.List.{[]}
use native.Mathlib.Omega.{arith}
use lib.ListN.{length}
use Rattle.state.specs.declared.run.Run.{Run}
use Rattle.state.specs.declared.talk.Place.{Place}
use Rattle.state.specs.declared.talk.Reply.{Reply}
use Rattle.state.specs.declared.talk.Request.{Request}
use Rattle.state.specs.Memory.{Memory}
use Rattle.opening.specs.Rows.{Opening, verdict_of}
use Rattle.opening.specs.Opening.{OpeningOutcome, opening_outcome, open_of}
use Rattle.opening.specs.Admission.{admission_rows}
use Rattle.solve_blocks.specs.Advance.{advance_by}
use Rattle.history.specs.Host.{is_end, Action, wrote}
use Rattle.history.specs.History.{Point, point, next_point}
use Rattle.account.specs.Journal.{Fair, Journal, journal, next, Starts}
use Rattle.account.specs.Reading.{most_requests}
use Rattle.account.specs.Account.{Strategy, played, FairHost, EndsWithin}
use Rattle.account.proofs.Journals.{turns-played}
use Rattle.account.proofs.Theorems.{ends}
use Rattle.solve_whole.specs.Talk.{Host, World, Talk, talk, action_at, Advance, admitted, offered}
use Rattle.solve_whole.specs.Talk.{advanced_by, talk_by, talk_of, Admits, FairTalk, TalksTo}
use Rattle.solve_whole.specs.Solve.{Returns, ReturnsWithin}
use Rattle.solve_whole.proofs.Talks.{offered-same, EndedAt, first-end, talks-alike}
use Rattle.solve_whole.proofs.Talks.{talk-solves, solve-exactly-proof}
use Rattle.solve_whole.proofs.Talks.{solve-advances}
use Rattle.std.specs.Prelude.{Ok, Err}
use Rattle.state.specs.Talk.{Verdict, call, passed_all}

-- an advance that is answered by a request was admitted
answered-passed : (v : Verdict) (r : Run) (a : Reply) (m : Memory) (e : Run) (q : Request) (p : Place)
    → (advance_by v r a m).core.answer ≡ Ok (call e q p) → v ≡ passed_all
unfolding advance_by
answered-passed (Ok tt) r a m e q p is = refl
answered-passed (Err x) r a m e q p is = let no : ◌≡◌ {A = ℕ} 0 1 = cc in absurd (omega arith)

-- the last of the advances apart
pub last-advance : (advance : Advance) (host : Host) (k : ℕ) (t : Talk)
    → talk_by advance host (suc k) t ≡ advanced_by advance host (talk_by advance host k t)
unfolding talk_by
last-advance advance host zero t = refl
last-advance advance host (suc k) t = last-advance advance host k (advanced_by advance host t)

-- ---- a journal beside the talk

module _ (host : Host) (start : Point) where
  abbrev talk_at : ℕ → Talk
  talk_at k = talk_by offered host k (talk start [])

  -- of a journal it looks at the number of turns only
  abbrev beside : Strategy
  beside j = action_at host (talk_at (length j.turns))

  abbrev journal_at : ℕ → Journal
  journal_at k = played beside (journal start []) k

  action-same : (k : ℕ) → beside (journal_at k) ≡ action_at host (talk_at k)
  action-same k =
      let turns : length (journal_at k).turns ≡ k = omega (arith, turns-played beside (journal start []) k) in
      ap (λ (i : ℕ). action_at host (talk_at i)) turns

  -- where what the host does here leads
  abbrev past : Point → Action → Point
  past here a =
      let o = offered here.run a.reply (wrote here.request here.place a here.memory) in
      next_point here o.answer o.memory

  point-same : (k : ℕ) → (journal_at k).point ≡ (talk_at k).point
  unfolding played next talk_by
  point-same zero = refl
  point-same (suc k) =
      ap₂ past (point-same k) (action-same k)
      ∙ sym (ap (λ (t : Talk). t.point) (last-advance offered host k (talk start [])))

  -- what holds of a point of the journal and of what is done there holds of the talk's, and the other way round
  to-talk : (P : Point → Action → Type 0) (k : ℕ) → P (journal_at k).point (beside (journal_at k))
      → P (talk_at k).point (action_at host (talk_at k))
  to-talk P k h =
      subst (λ (here : Point). P here (action_at host (talk_at k))) (point-same k)
      (subst (P (journal_at k).point) (action-same k) h)

  to-journal : (P : Point → Action → Type 0) (k : ℕ) → P (talk_at k).point (action_at host (talk_at k))
      → P (journal_at k).point (beside (journal_at k))
  to-journal P k = to-talk (λ here a. P here a → P (journal_at k).point (beside (journal_at k))) k (λ h. h)

  fair-beside : FairTalk host start → FairHost beside (journal start [])
  fair-beside fair k on = to-journal Fair k (fair k (to-talk (λ here a. is_end here.request ≡ false) k on))

-- ---- the theorem

module _ (host : Host) (o : Opening) (r : Run) (q : Request) (p : Place) (m : Memory)
    (accepted : open_of o ≡ opening_outcome (Ok (call r q p)) m)
    (fair : FairTalk host (point r q p m)) where
  abbrev start : Point
  start = point r q p m

  abbrev most : ℕ
  most = most_requests o.settings.source o.n o.settings.max_steps o.settings.newton_maxiter

  account : EndsWithin most (beside host start) (journal start [])
  unfolding Starts
  account =
      ends o (journal start [])
      (ap (λ (x : OpeningOutcome). x.answer) accepted, ap (λ (x : OpeningOutcome). x.memory) accepted, refl)
      (beside host start) (fair-beside host start fair)

  admits : (k : ℕ) → k < account.advances → Admits host (talk_at host start k)
  admits k l =
      to-talk host start (λ here a.
      verdict_of (admission_rows here.run a.reply (wrote here.request here.place a here.memory))
      ≡ passed_all)
      k
      (answered-passed _ _ _ _ _ _ _ (account.answered k l))

  same : (k : ℕ) → k ≤ account.advances → talk_at host start k ≡ talk_of host k (talk start [])
  same k l = offered-same host k (talk start []) (λ j h. admits j (omega (arith, h, l)))

  ended : EndedAt offered host start account.advances true
  ended = to-talk host start (λ here a. is_end here.request ≡ true) account.advances account.ended

  -- before the end what the host replies is admitted
  pub admitted-before : (k : ℕ) → ((i : ℕ) → i < suc k → EndedAt offered host start i false)
      → Admits host (talk_at host start k)
  admitted-before k going = admits k (first-end offered host start account.advances (suc k) ended going)

  ended-admitted : EndedAt admitted host start account.advances true
  ended-admitted = subst (λ (t : Talk). is_end t.point.request ≡ true) (same account.advances (omega arith)) ended

  pub solve-offered-proof : (e : Run) (w : World) → Returns host r m e w ↔ TalksTo offered host start e w
  solve-offered-proof e w = (to, from)
    where
      to : Returns host r m e w → TalksTo offered host start e w
      to s =
          let few =
          first-end admitted host start account.advances (length w.exchanges) ended-admitted
          ((solve-exactly-proof host o r q p m accepted e w).0 s).before in
          solve-advances host o r q p m accepted e w s (λ j l. admits j (omega (arith, few, l)))

      from : TalksTo offered host start e w → Returns host r m e w
      from a =
          let few = first-end offered host start account.advances (length w.exchanges) ended a.before in
          (solve-exactly-proof host o r q p m accepted e w).1
          (talks-alike offered admitted host host start e w (λ k l. same k (omega (arith, few, l))) a)

  pub solve-returns-proof : ReturnsWithin most host r m
  solve-returns-proof =
      let k = account.advances in
      let f = talk-solves host o r q p m accepted k (6 * (k + 1)) ended-admitted (omega arith) in
      record {
        run = f.run;
        world = f.world;
        returns = record { passes = 6 * (k + 1); is = f.is };
        few = omega (arith, f.calls, account.few);
      }
