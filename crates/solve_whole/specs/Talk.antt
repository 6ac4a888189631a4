-- A host, and the two ways in which a solver meets it: `solve` calls it (ask), or a run is advanced
-- by its replies (talk_by).
use Rattle.std.specs.Prelude.{ℕ, zero, suc, ◌<◌, false, ◌≡◌, List, [], ◌∷◌, length}
use Rattle.state.specs.declared.run.Run.{Run}
use Rattle.state.specs.declared.run.Stage.TheVariants as stage
use Rattle.state.specs.declared.run.Status.{Status}
use Rattle.state.specs.declared.talk.Place.{Place}
use Rattle.state.specs.declared.talk.Place.TheVariants.{Nowhere}
use Rattle.state.specs.declared.talk.Reply.{Reply}
use Rattle.state.specs.declared.talk.Request.{Request}
use Rattle.state.specs.declared.talk.Request.TheVariants as request
use Rattle.state.specs.Memory.{Memory}
use Rattle.state.specs.declared.talk.Call.{Call}
use Rattle.opening.specs.Rows.{verdict_of}
use Rattle.opening.specs.Admission.{admission_rows}
use Rattle.solve_blocks.specs.Advance.{AdvanceOutcome, advance_by, advance_of}
use Rattle.history.specs.Host.{is_end, Action, wrote}
use Rattle.history.specs.History.{Point, point, next_point}
use Rattle.account.specs.Journal.{Fair}
use Rattle.state.specs.Talk.{passed_all}

-- ---- the host

-- what was asked and where, the memory that was handed out, and what the host did
pub record Exchange : Type 0 where
  pub request : Request
  pub place : Place
  pub memory : Memory
  pub action : Action

abbrev pub exchange : Request → Place → Memory → Action → Exchange
exchange q p m a = record { request = q; place = p; memory = m; action = a }

-- what it does may depend on all that was exchanged before, the latest first, on what is asked, and on the memory
abbrev pub Host : Type 0
Host = List Exchange → Request → Place → Memory → Action

-- ---- called by `solve`

-- the memory, and what was exchanged so far, the latest first
pub record World : Type 0 where
  pub memory : Memory
  pub exchanges : List Exchange

abbrev pub world : Memory → List Exchange → World
world m es = record { memory = m; exchanges = es }

abbrev pub on_memory : (Memory → Memory) → World → World
on_memory f w = world (f w.memory) w.exchanges

module _ (host : Host) where
  abbrev pub action_of : Call → World → Action
  action_of c w = host w.exchanges c.request c.place w.memory

  -- the host is called: what it does is noted, and what it writes is written
  abbrev pub ask : Call → World → World
  ask c w =
      let a = action_of c w in
      world (wrote c.request c.place a w.memory)
      (exchange c.request c.place w.memory a ∷ w.exchanges)

  -- what it then replies; only a report's reply is looked at
  abbrev pub reply_of : Call → World → Reply
  reply_of c w = (action_of c w).reply

-- ---- advanced by its replies

-- where the talk stands, and what was exchanged so far, the latest first
pub record Talk : Type 0 where
  pub point : Point
  pub exchanges : List Exchange

abbrev pub talk : Point → List Exchange → Talk
talk here es = record { point = here; exchanges = es }

-- what the host does there
abbrev pub action_at : Host → Talk → Action
action_at host t = let here = t.point in host t.exchanges here.request here.place here.memory

-- what an advance does; its outcome where the reply is admitted, and as it is offered, with its refusals
abbrev pub Advance : Type 0
Advance = Run → Reply → Memory → AdvanceOutcome

abbrev pub admitted : Advance
admitted r p m = (advance_by passed_all r p m).core

abbrev pub offered : Advance
offered r p m = (advance_of r p m).core

module _ (advance : Advance) (host : Host) where
  -- the host does what is asked, and the run is advanced by its reply
  abbrev pub advanced_by : Talk → Talk
  advanced_by t =
      let here = t.point in
      let a = action_at host t in
      let o = advance here.run a.reply (wrote here.request here.place a here.memory) in
      talk (next_point here o.answer o.memory)
      (exchange here.request here.place here.memory a ∷ t.exchanges)

  -- k advances; past the end an advance that is admitted changes nothing but the exchanges
  unfoldable pub talk_by : ℕ → Talk → Talk
  talk_by zero t = t
  talk_by (suc k) t = talk_by k (advanced_by t)

-- k advances whose replies are admitted: that they are is a theorem of its own
abbrev pub talk_of : Host → ℕ → Talk → Talk
talk_of host = talk_by admitted host

-- the reply that the host gives here is admitted
abbrev pub Admits : Host → Talk → Type 0
Admits host t =
    let here = t.point in
    let a = action_at host t in
    verdict_of (admission_rows here.run a.reply (wrote here.request here.place a here.memory))
    ≡ passed_all

-- the host is fair wherever the talk by advances as they are offered stands before its end
abbrev pub FairTalk : Host → Point → Type 0
FairTalk host start =
    (k : ℕ) →
    let t = talk_by offered host k (talk start []) in
    is_end t.point.request ≡ false → Fair t.point (action_at host t)

-- ---- the two agree

-- from `start`, as many advances as w has exchanges make just these exchanges, and end the run at e with w's memory;
-- none before them ends it
pub record TalksTo (advance : Advance) (host : Host) (start : Point) (e : Run) (w : World) : Type 0 where
  pub status : Status
  pub stage : e.stage ≡ stage.Ended status
  pub talks : talk_by advance host (length w.exchanges) (talk start [])
      ≡ talk (point e (request.Ended status) Nowhere w.memory) w.exchanges
  pub before : (j : ℕ) → j < length w.exchanges
      → is_end (talk_by advance host j (talk start [])).point.request ≡ false
