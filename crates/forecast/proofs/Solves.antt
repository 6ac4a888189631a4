-- The forecast of a sheet is the end of its model's run:
--     forecast-solves      what is told of the outcome of a run with a budget, over the memory that the reader leaves,
--                          is the forecast
--     one-forecast-proof   of what was read there is one forecast only
-- That every such run ends, so that there is something to tell, is `run-ends-proof` of BudgetLasts.antt.
use Prim.Native.Nat.{ℕ, ◌-◌}
use mathlib.Core.Path.{◌≡◌, refl, sym, ap, ◌∙◌, subst}
use mathlib.Core.List.{List, ◌++◌, map}
use native.Mathlib.Omega.{arith}
use borrow.Author.Tests.{le-leb}
use lib.ListN.{length, take, drop}
use lib.Ieee.{Float}
use Rattle.words.specs.Words.{double}
use Rattle.words.proofs.Branch.{pick_yes}
use Rattle.state.specs.declared.run.Run.{Run}
use Rattle.state.specs.declared.run.Stage.TheVariants as stage
use Rattle.state.specs.declared.run.Status.{Status}
use Rattle.state.specs.declared.run.Tolerances.TheVariants.{Scalars}
use Rattle.state.specs.declared.talk.IntegrationResult.{IntegrationResult}
use Rattle.state.specs.Memory.{Memory, zeros, noughts}
use Rattle.state.specs.Result.{result_at, result_of}
use Rattle.opening.specs.Rows.{Opening, opening}
use Rattle.opening.specs.Opening.{opening_outcome, open_of}
use Rattle.history.specs.History.{Point, point}
use Rattle.account.specs.Demand as demand
use Rattle.solve_whole.specs.Talk.{World, offered}
use Rattle.solve_whole.proofs.Talks.{one_end}
use Rattle.sheet.specs.Sheet as sheet
use Rattle.sheet.specs.Sheet.{Valid}
use Rattle.sheet.specs.Reader.{Read, accepted, malformed, too_long, heading_of}
use Rattle.sheet.specs.Reader.{answer_of, amounts_left, rates_left, species_left, read_of}
use Rattle.sheet.proofs.Accepted.{accepted-sound}
use Rattle.sheet.specs.declared.sheet.Heading.{Heading}
use Rattle.sheet.specs.declared.sheet.SheetError.{SheetError}
use Rattle.sheet.specs.declared.sheet.SheetError.TheVariants as unreadable
use Rattle.forecast_text.specs.Unread.{unread}
use Rattle.std.specs.Prelude.{Ok, Err}
use Rattle.forecast_text.specs.Printed.{Forecast}
use Rattle.model_run.specs.Budget.{lent_of, room_of, opening_of, from_opened, whole_of, run_of}
use Rattle.model_run.specs.declared.run.TaskOutcome.{TaskOutcome}
use Rattle.forecast.specs.Forecast.{settings_of, opening_for, host_of, ended_at}
use Rattle.forecast.specs.Forecast.{RunsTo, FromOpened, Solved, Forecasts}
use Rattle.forecast.specs.Told.{task_from, outcome_from, ToldEnd, Told}
use Rattle.forecast.proofs.ModelRead.{amounts-taken, amounts-behind}
use Rattle.forecast.proofs.HostsAgree.{code_host, reached, model-talks, amounts-kept}
use Rattle.std.specs.Prelude.{Some}
use Rattle.state.specs.Talk.{Opened}

-- ---- what is opened

-- the run of a heading and of the memory that the reader leaves beside it
abbrev outcome_of : Heading → Read → TaskOutcome
outcome_of h x = outcome_from h (amounts_left x (noughts 32)) (rates_left x (noughts 64)) (species_left x (noughts 256))

module _ (m : sheet.Model) (valid : Valid m) where
  abbrev n : ℕ
  n = length m.amounts

  abbrev pub left : List Float
  left = map double (amounts_left (accepted m) (noughts 32))

  pub room : room_of n ≡ n
  room = pick_yes _ _ (le-leb n 32 valid.few)

  pub opening-same : opening_of (task_from (heading_of m) left) ≡ opening_for m
  unfolding heading_of amounts_left
  opening-same =
      ap (λ (k : ℕ). with (lent_of k (take k left))) room
      ∙ ap (λ (y : List Float). with (lent_of n y)) (amounts-taken m.amounts valid.few)
    where
      with : Memory → Opening
      with =
          opening (settings_of m.max_steps m.rule) n (double m.x0) (double m.xend)
          (Scalars (double m.rtol) (double m.atol))

  behind : drop (room_of n) left ≡ zeros (32 - n)
  unfolding amounts_left
  behind = ap (λ (k : ℕ). drop k left) room ∙ amounts-behind m.amounts valid.few

  -- ---- what is told

  -- the result of an ended run, and a forecast that tells it with k amounts
  abbrev end_of : Run → Status → IntegrationResult
  end_of e s = demand.tells e s e.counts e.notes

  abbrev tells : IntegrationResult → ℕ → List Float → Forecast
  tells i k y = Ok (record { result = i; species = k; amounts = y ++ zeros (32 - k) })

  end_is : (e : Run) (s : Status) (end : IntegrationResult)
      → e.stage ≡ stage.Ended s → result_of e ≡ Some end → end_of e s ≡ end
  unfolding result_at
  end_is e s end at is = let same = sym (ap (result_at e) at) ∙ is in cc

  solved-by : (a : Opened) (memory : Memory) → open_of (opening_for m) ≡ opening_outcome a memory → (f : Forecast)
      → (let e = from_opened (code_host m) a memory in Told n e.finish (e.memory.amounts.y ++ zeros (32 - n)) f)
      → FromOpened m a memory f
  unfolding from_opened Told FromOpened
  solved-by (Err x) memory opens f told = told
  solved-by (Ok c) memory opens f told =
      let a = reached m valid c.run c.request c.place memory opens in
      let t = model-talks m valid c.run c.request c.place memory opens in
      let e =
      subst (λ (here : Point). ToldEnd n here.run (here.memory.amounts.y ++ zeros (32 - n)) f) a.last told in
      let y = a.world.memory.amounts.y in
      record {
        run = a.run;
        world = a.world;
        talks = t;
        told = e.told
            ∙ ap (λ (i : IntegrationResult). tells i n y)
            (sym (end_is a.run t.status e.end t.stage e.is))
            ∙ ap (λ (k : ℕ). tells (end_of a.run t.status) k y)
            (sym (amounts-kept m valid c.run c.request c.place memory opens));
      }

  pub run-solves : (f : Forecast)
      → (let o = outcome_of (heading_of m) (accepted m) in Told n o.finish o.amounts f) → Solved m f
  unfolding heading_of rates_left species_left run_of whole_of
  run-solves f told =
      let o = open_of (opening_for m) in
      solved-by o.answer o.memory refl f
      (subst (λ (v : List Float). let e = whole_of (code_host m) (opening_for m) in
      Told n e.finish (e.memory.amounts.y ++ v) f)
      behind
      (subst (λ (p : Opening). let e = whole_of (code_host m) p in
      Told n e.finish (e.memory.amounts.y ++ drop (room_of n) left) f)
      opening-same told))

-- ---- the three answers of the reader

solves-by : (x : Read) → ((m : sheet.Model) → x ≡ accepted m → Valid m)
    → (h : Heading) → Ok h ≡ answer_of x → (f : Forecast)
    → (let o = outcome_of h x in Told h.species o.finish o.amounts f) → Forecasts x f
unfolding answer_of heading_of Forecasts
solves-by (accepted m) valid h e f told =
    let same : h ≡ heading_of m = cc in
    run-solves m (valid m refl) f (subst
    (λ (g : Heading). let o = outcome_of g (accepted m) in Told g.species o.finish o.amounts f) same told)
solves-by (malformed k) valid h e f told = absurd (let z : ◌≡◌ {A = ℕ} 0 1 = cc in let no : ⊥ = omega arith in no)
solves-by too_long valid h e f told = absurd (let z : ◌≡◌ {A = ℕ} 0 1 = cc in let no : ⊥ = omega arith in no)

pub forecast-solves : (bytes : List ℕ) (h : Heading) {amounts rates species : List ℕ} (f : Forecast)
    → Ok h ≡ answer_of (read_of bytes)
    → amounts ≡ amounts_left (read_of bytes) (noughts 32) → rates ≡ rates_left (read_of bytes) (noughts 64)
    → species ≡ species_left (read_of bytes) (noughts 256)
    → (let o = outcome_from h amounts rates species in Told h.species o.finish o.amounts f)
    → Forecasts (read_of bytes) f
forecast-solves bytes h {amounts} {rates} {species} f e a r s told =
    solves-by (read_of bytes) (λ m is. (accepted-sound bytes m is).1) h e f
    (subst (λ (o : TaskOutcome). Told h.species o.finish o.amounts f)
    (ap (λ (v : List ℕ). outcome_from h v rates species) a
    ∙ ap (λ (v : List ℕ). outcome_from h (amounts_left (read_of bytes) (noughts 32)) v species) r
    ∙ ap
    (λ (v : List ℕ). outcome_from h (amounts_left (read_of bytes) (noughts 32))
    (rates_left (read_of bytes) (noughts 64)) v)
    s)
    told)

pub read-refused : (x : Read) (e : SheetError) → Err e ≡ answer_of x → Forecasts x (Err (unread e))
unfolding answer_of Forecasts
read-refused (accepted m) e q = absurd (let z : ◌≡◌ {A = ℕ} 0 1 = cc in let no : ⊥ = omega arith in no)
read-refused (malformed k) e q = let same : e ≡ unreadable.Malformed k = cc in rw same refl
read-refused too_long e q = let same : e ≡ unreadable.TooLong = cc in rw same refl

-- ---- one forecast

one-end-told : (m : sheet.Model) (start : Point) (f g : Forecast) → RunsTo m start f → RunsTo m start g → f ≡ g
one-end-told m start f g a b =
    let same = one_end offered (host_of m) start a.run b.run a.world b.world a.talks b.talks in
    let ends : stage.Ended a.talks.status
    ≡ stage.Ended b.talks.status = sym a.talks.stage ∙ ap (λ (r : Run). r.stage) same.0 ∙ b.talks.stage in
    let status : a.talks.status ≡ b.talks.status = cc in
    a.told
    ∙ ap (λ (r : Run). ended_at r a.talks.status a.world.memory.amounts.y) same.0
    ∙ ap (λ (s : Status). ended_at b.run s a.world.memory.amounts.y) status
    ∙ ap (λ (w : World). ended_at b.run b.talks.status w.memory.amounts.y) same.1
    ∙ sym b.told

one-by : (m : sheet.Model) (a : Opened) (memory : Memory) (f g : Forecast) → FromOpened m a memory f
    → FromOpened m a memory g → f ≡ g
unfolding FromOpened
one-by m (Err x) memory f g a b = a ∙ sym b
one-by m (Ok c) memory f g a b = one-end-told m (point c.run c.request c.place memory) f g a b

pub one-forecast-proof : (x : Read) (f g : Forecast) → Forecasts x f → Forecasts x g → f ≡ g
unfolding Forecasts
one-forecast-proof (accepted m) f g a b =
    one-by m (open_of (opening_for m)).answer (open_of (opening_for m)).memory f g a b
one-forecast-proof (malformed k) f g a b = a ∙ sym b
one-forecast-proof too_long f g a b = a ∙ sym b
