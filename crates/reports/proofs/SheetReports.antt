-- The reports that are met from the beginning of a sheet's run on are those of the journal by which its forecast is
-- accounted for: the host of the code does what the model's does at each point of it, and the budget lasts.
use Prim.Native.Nat.{ℕ, zero, suc, ◌<◌}
use mathlib.Core.Bool.{false, true≢false}
use mathlib.Core.Path.{◌≡◌, refl, sym, ap, ◌∙◌, subst}
use mathlib.Core.List.{List, [], ◌++◌}
use native.Mathlib.Omega.{arith}
use lib.ListN.{length, take}
use lib.Ieee.{Float}
use Rattle.state.specs.declared.run.Run.{Run}
use Rattle.state.specs.declared.talk.Place.{Place}
use Rattle.state.specs.declared.talk.Request.{Request}
use Rattle.state.specs.declared.talk.Request.TheVariants as request
use Rattle.state.specs.Memory.{Memory, noughts}
use Rattle.opening.specs.Rows.{Opening}
use Rattle.opening.specs.Opening.{OpeningOutcome, opening_outcome, open_of}
use Rattle.history.specs.Host.{is_end}
use Rattle.history.specs.History.{Point, point}
use Rattle.account.specs.Journal.{Journal, journal, Starts}
use Rattle.account.specs.Account.{played}
use Rattle.account.proofs.FirstPoint.{opens}
use Rattle.solve_whole.specs.Talk.{World, Talk, talk, offered}
use Rattle.solve_whole.proofs.Talks.{one_end}
use Rattle.solve_whole.proofs.Theorems.{solve-offered}
use Rattle.sheet.specs.Sheet.{Model, Valid}
use Rattle.sheet.specs.Reader.{Read, accepted, heading_of, amounts_left, rates_left, species_left, read_of}
use Rattle.sheet.proofs.Accepted.{accepted-sound}
use Rattle.model_run.specs.Budget.{budget, lent_of, memory_of, opening_of}
use Rattle.model_run.specs.declared.run.Task.{Task}
use Rattle.model_run.proofs.OpeningKept.{opening-kept}
use Rattle.forecast_text.specs.declared.ending.Reached.{Reached}
use Rattle.forecast.specs.Forecast.{opening_for, host_of}
use Rattle.forecast.specs.Account.{strategy_of, Accounted, Accounts}
use Rattle.forecast.specs.Told.{task_from}
use Rattle.forecast.proofs.Turns.{strategy, done_at, played-point}
use Rattle.forecast.proofs.BudgetLasts.{starts, enough}
use Rattle.forecast.proofs.ModelRead.{rates_for, species_for}
use Rattle.forecast.proofs.HostsAgree.{code_host, model_host, reached, same_at, model-talks, model-fair}
use Rattle.forecast.proofs.Solves.{left, room, opening-same}
use Rattle.reports.specs.declared.beginning.Begun.{Begun}
use Rattle.reports.specs.Beginning.{begun_by, opened_from, begin_of}
use Rattle.reports.specs.Reports.{Reported, report_at, report_here, reports_in, met_from, points_of, points_read}
use Rattle.reports.proofs.Meeting.{EndsAfter, ends-after, reports_of, met-reports, played-reports, play-alike}
use Rattle.std.specs.Prelude.{None, Some, Ok}
use Rattle.state.specs.Talk.{call}

-- ---- from the first request of a model to its end

module _ (m : Model) (valid : Valid m) (r : Run) (q : Request) (p : Place) (memory : Memory)
    (opened : open_of (opening_for m) ≡ opening_outcome (Ok (call r q p)) memory) where
  abbrev start : Point
  start = point r q p memory

  abbrev turns : ℕ
  turns = length (reached m valid r q p memory opened).world.exchanges

  first : Starts (open_of (opening_for m)) (journal start [])
  first = starts (length m.reactions) (rates_for m) (species_for m) (opening_for m) r q p memory opened

  asks : q ≡ request.Derivative (opening_for m).x0
  asks = (opens (opening_for m) (journal start []) first).request

  nothing-first : report_here start ≡ []
  unfolding report_at
  nothing-first = ap (λ (x : Request). report_at x memory.amounts.y) asks

  going-first : is_end q ≡ false
  unfolding is_end
  going-first = ap is_end asks

  ends : EndsAfter (code_host m) turns start
  unfolding is_end
  ends =
      let t = (reached m valid r q p memory opened).talks in
      ends-after (code_host m) turns (talk start []) t.before
      (ap (λ (x : Talk). is_end x.point.request) t.talks)

  few : turns < budget
  few =
      let e = enough (length m.reactions) (rates_for m) (species_for m) (opening_for m) r q p memory opened in
      omega (arith, (reached m valid r q p memory opened).few, e)

  abbrev played-to : Journal
  played-to = played (strategy_of m) (journal start []) turns

  same-journal : played (strategy (code_host m)) (journal start []) turns ≡ played-to
  same-journal =
      play-alike (code_host m) (model_host m) turns (journal start [])
      (λ i l. subst (λ (here : Point). done_at (code_host m) here ≡ done_at (model_host m) here)
      (sym (played-point (code_host m) i start [] [])) (same_at m valid r q p memory opened i l))

  met_by : (k : ℕ) → turns ≡ k → met_from (code_host m) budget start ≡ reports_of (code_host m) k start
  unfolding EndsAfter
  met_by zero e =
      absurd (true≢false (sym (subst (λ (k : ℕ). EndsAfter (code_host m) k start) e ends) ∙ going-first))
  met_by (suc d) e =
      ap (λ (ps : List Reported). ps ++ met_from (code_host m) budget start) (sym nothing-first)
      ∙ met-reports (code_host m) 268_435_454 refl d 268_435_455 start
      (omega (arith, few, e)) (omega (arith, few, e)) (subst (λ (k : ℕ). EndsAfter (code_host m) k start) e ends)

  pub model-met : met_from (code_host m) budget start ≡ reports_in played-to.turns
  unfolding reports_in
  model-met =
      met_by turns refl
      ∙ sym (played-reports (code_host m) turns start [])
      ∙ ap (λ (j : Journal). reports_in j.turns) same-journal

-- ---- the journal of an account

module _ (m : Model) (valid : Valid m) (e : Reached) (a : Accounted m e) where
  abbrev r : Run
  r = a.start.run

  abbrev q : Request
  q = a.start.request

  abbrev p : Place
  p = a.start.place

  abbrev kept : Memory
  kept = a.start.memory

  same-world : (reached m valid r q p kept a.opens).world ≡ a.world
  same-world =
      let t = (solve-offered (host_of m) (opening_for m) r q p kept a.opens (model-fair m valid r q p kept a.opens)
      a.run a.world).0 a.returns in
      (one_end offered (host_of m) a.start (reached m valid r q p kept a.opens).run a.run
      (reached m valid r q p kept a.opens).world a.world (model-talks m valid r q p kept a.opens) t).1

  accounted-met : met_from (code_host m) budget a.start ≡ reports_in a.journal.turns
  accounted-met =
      model-met m valid r q p kept a.opens
      ∙ ap (λ (w : World).
      reports_in (played (strategy_of m) (journal a.start []) (length w.exchanges)).turns) same-world
      ∙ ap (λ (j : Journal). reports_in j.turns) (sym a.is)

  -- ---- what the code begins with

  abbrev task : Task
  task = task_from (heading_of m) (left m valid)

  answered : (open_of (opening_of task)).answer ≡ Ok (call r q p)
  answered =
      ap (λ (o : Opening). (open_of o).answer) (opening-same m valid)
      ∙ ap (λ (x : OpeningOutcome). x.answer) a.opens

  lent : memory_of task ≡ kept
  lent =
      sym (opening-kept task r q p answered)
      ∙ ap (λ (o : Opening). (open_of o).memory) (opening-same m valid)
      ∙ ap (λ (x : OpeningOutcome). x.memory) a.opens

  abbrev begun : Begun
  begun =
      record {
        n = length m.amounts;
        reactions = length m.reactions;
        pending = record { run = r; request = q; place = p };
      }

  pub begins : begin_of (accepted m) (noughts 32) ≡ Some begun
  unfolding begin_of opened_from begun_by heading_of
  begins = ap (begun_by task) answered

  -- the memory that the program lends
  lent-so : lent_of (length m.amounts) (take (length m.amounts) (left m valid)) ≡ kept
  unfolding heading_of
  lent-so =
      ap (λ (k : ℕ). lent_of k (take k (left m valid))) (sym (room m valid)) ∙ lent

  pub begun-met : points_of begun (amounts_left (accepted m) (noughts 32)) (rates_left (accepted m) (noughts 64))
      (species_left (accepted m) (noughts 256))
      ≡ reports_in a.journal.turns
  unfolding rates_left species_left
  begun-met = ap (λ (x : Memory). met_from (code_host m) budget (point r q p x)) lent-so ∙ accounted-met

-- ---- from the bytes of a sheet

module _ (bytes : List ℕ) (e : Reached) (a : Accounts bytes e) where
  abbrev m : Model
  m = a.model

  valid : Valid m
  valid = (accepted-sound bytes m a.holds).1

  abbrev starts_with : Begun
  starts_with = begun m valid e a.accounted

  begins-so : begin_of (read_of bytes) (noughts 32) ≡ Some starts_with
  begins-so = ap (λ (x : Read). begin_of x (noughts 32)) a.holds ∙ begins m valid e a.accounted

  pub points-reported-proof : (b : Begun) → begin_of (read_of bytes) (noughts 32) ≡ Some b
      → points_read b (read_of bytes) ≡ reports_in a.accounted.journal.turns
  points-reported-proof b is =
      let both = sym begins-so ∙ is in
      let same : starts_with ≡ b = cc in
      ap (λ (s : Begun). points_read s (read_of bytes)) (sym same)
      ∙ ap (points_read starts_with) a.holds
      ∙ begun-met m valid e a.accounted

  pub begun-told-proof : begin_of (read_of bytes) (noughts 32) ≡ None → ⊥
  begun-told-proof is =
      let both = sym begins-so ∙ is in
      let z : ◌≡◌ {A = ℕ} 0 1 = cc in
      omega arith
