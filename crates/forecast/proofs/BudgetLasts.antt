-- The budget is never used up: from every accepted opening the model's host leads to the end, in fewer requests than
-- the account allows, which are fewer than 2 to the 28th.
use Prim.Native.Nat.{ℕ, ◌+◌, ◌*◌, ◌≤◌, ◌<◌}
use mathlib.Core.Path.{◌≡◌, refl, ap, ◌∙◌}
use mathlib.Core.List.{List, []}
use native.Mathlib.Omega.{arith}
use native.Mathlib.Nat.{mul-le-mul}
use lib.ListN.{length}
use lib.Ieee.{Float}
use Rattle.state.specs.declared.settings.Source.{Source}
use Rattle.state.specs.declared.settings.Source.TheVariants as source
use Rattle.state.specs.declared.run.Run.{Run}
use Rattle.state.specs.declared.talk.Place.{Place}
use Rattle.state.specs.declared.talk.Place.TheVariants.{Nowhere}
use Rattle.state.specs.declared.talk.Request.{Request}
use Rattle.state.specs.declared.talk.Request.TheVariants as request
use Rattle.state.specs.Memory.{Memory}
use Rattle.opening.specs.Rows.{Opening}
use Rattle.opening.specs.Opening.{OpeningOutcome, opening_outcome, open_of}
use Rattle.history.specs.Host.{is_end}
use Rattle.history.specs.History.{Point, point}
use Rattle.account.specs.Journal.{journal, Starts}
use Rattle.account.specs.Reading.{width, most_requests}
use Rattle.account.proofs.FirstPoint.{opens, order-within, limit-within, rounds-within}
use Rattle.solve_whole.specs.Talk.{World, Talk, talk, offered, talk_by, FairTalk, TalksTo}
use Rattle.solve_whole.proofs.Theorems.{solve-offered, solve-returns}
use Rattle.model_run.specs.Host.{answered_by}
use Rattle.model_run.specs.Budget.{Answering, last_of, budget, from_opened, whole_of, run_of}
use Rattle.model_run.specs.declared.run.Task.{Task}
use Rattle.forecast.specs.Account.{most_of}
use Rattle.forecast.specs.Told.{Ends}
use Rattle.forecast.proofs.Turns.{always, last-talk}
use Rattle.model_run.proofs.HostFair.{host-fair}
use Rattle.std.specs.Prelude.{Ok, Err}
use Rattle.state.specs.Talk.{Opened, call}

-- ---- how many requests

width_few : (s : Source) (n : ℕ) → n ≤ 32 → width s n ≤ 33
unfolding width
width_few source.Host n h = omega arith
width_few source.Differences n h = omega arith

requests-few : (s : Source) (n M K : ℕ) → n ≤ 32 → M ≤ 1_000_000 → K ≤ 16 → most_requests s n M K ≤ budget
requests-few s n M K small steps rounds =
    let stages : K + 1 ≤ 17 = omega arith in
    let passes : M + 1 ≤ 1_000_001 = omega arith in
    let odes : (K + 1) * M ≤ 17 * 1_000_000 = mul-le-mul stages steps in
    let columns : (M + 1) * width s n ≤ 1_000_001 * 33 = mul-le-mul passes (width_few s n small) in
    omega arith

-- ---- the end of a talk

-- the talk by a host's replies comes to an end, within so many requests, and that is where a budget leads
pub record Reaches (host : Answering) (start : Point) (most : ℕ) : Type 0 where
  pub run : Run
  pub world : World
  pub talks : TalksTo offered (always host) start run world
  pub few : length world.exchanges < most
  pub last : last_of host budget start ≡ point run (request.Ended talks.status) Nowhere world.memory

module _ (reactions : ℕ) (rates : List Float) (species : List ℕ) (o : Opening) where
  abbrev host : Answering
  host = answered_by reactions rates species

  module _ (r : Run) (q : Request) (p : Place) (m : Memory)
      (accepted : open_of o ≡ opening_outcome (Ok (call r q p)) m) where
    abbrev start : Point
    start = point r q p m

    pub starts : Starts (open_of o) (journal start [])
    unfolding Starts
    starts = (ap (λ (x : OpeningOutcome). x.answer) accepted, ap (λ (x : OpeningOutcome). x.memory) accepted, refl)

    fair : FairTalk (always host) start
    fair k on =
        let here = (talk_by offered (always host) k (talk start [])).point in
        host-fair reactions rates species here.run here.request here.place here.memory on

    pub enough : most_of o ≤ budget
    enough =
        let none = (opens o (journal start []) starts).none in
        requests-few o.settings.source o.n o.settings.max_steps o.settings.newton_maxiter
        (order-within o none).1 (limit-within o none).1 (rounds-within o none).1

    pub reaches : Reaches host start (most_of o)
    unfolding is_end
    reaches =
        let f = solve-returns (always host) o r q p m accepted fair in
        let t = (solve-offered (always host) o r q p m accepted fair f.run f.world).0 f.returns in
        let at = ap (λ (x : Talk). x.point) t.talks in
        record {
          run = f.run;
          world = f.world;
          talks = t;
          few = f.few;
          last =
              last-talk host (length f.world.exchanges) budget (talk start []) (omega (arith, f.few, enough))
              t.before (ap (λ (x : Point). is_end x.request) at)
              ∙ at;
        }

  -- ---- so every run ends

  ended-by : (a : Opened) (m : Memory) → open_of o ≡ opening_outcome a m → Ends (from_opened host a m).finish
  unfolding from_opened Ends
  ended-by (Err x) m e = tt
  ended-by (Ok c) m e =
      let a = reaches c.run c.request c.place m e in
      record { status = a.talks.status; is = ap (λ (x : Point). x.run.stage) a.last ∙ a.talks.stage }

  pub whole-ends : Ends (whole_of host o).finish
  unfolding whole_of
  whole-ends = ended-by (open_of o).answer (open_of o).memory refl

pub run-ends-proof : (t : Task) (rates : List Float) (species : List ℕ) → Ends (run_of t rates species).finish
unfolding run_of
run-ends-proof t rates species = whole-ends t.reactions rates species _
