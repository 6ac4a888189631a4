-- A forecast that tells an end is accounted for: `solve` returns it, and a journal of the run gives its counts and its
-- status (specs/Account.antt).
use Prim.Native.Nat.{ℕ, ◌<◌}
use mathlib.Core.Bool.{Bool, true, false, true≢false}
use mathlib.Core.Path.{◌≡◌, refl, sym, ap, ◌∙◌, subst}
use mathlib.Core.List.{List, []}
use lib.ListN.{length}
use Rattle.state.specs.declared.run.Counts.{Counts}
use Rattle.state.specs.declared.run.Run.{Run}
use Rattle.state.specs.declared.run.Notes.{Notes}
use Rattle.state.specs.declared.run.Status.{Status}
use Rattle.state.specs.declared.talk.IntegrationResult.{IntegrationResult}
use Rattle.state.specs.declared.talk.Place.{Place}
use Rattle.state.specs.declared.talk.Place.TheVariants.{Nowhere}
use Rattle.state.specs.declared.talk.Request.{Request}
use Rattle.state.specs.declared.talk.Request.TheVariants as request
use Rattle.state.specs.Memory.{Memory}
use Rattle.state.specs.Numbers.{smallest_stride, largest_stride}
use Rattle.state.specs.Result.{blame_of}
use Rattle.opening.specs.Rows.{Opening}
use Rattle.opening.specs.Opening.{opening_outcome, open_of}
use Rattle.history.specs.History.{Point, point}
use Rattle.account.specs.Journal.{Journal, journal, JournalOf}
use Rattle.account.specs.Strides.{steps_of, smallest_of, largest_of, notes_of}
use Rattle.account.specs.Account.{played, Limits}
use Rattle.account.specs.Demand as demand
use Rattle.account.proofs.Theorems.{counts-told, notes-kept, strides-kept, limits, statuses}
use Rattle.solve_whole.specs.Talk.{World, Talk, offered}
use Rattle.solve_whole.proofs.Talks.{one_end}
use Rattle.solve_whole.proofs.Theorems.{solve-offered}
use Rattle.sheet.specs.Sheet.{Model, Valid}
use Rattle.sheet.specs.Reader.{Read, accepted, malformed, too_long, read_of}
use Rattle.sheet.proofs.Accepted.{accepted-sound}
use Rattle.forecast_text.specs.declared.ending.Reached.{Reached}
use Rattle.forecast_text.specs.declared.ending.ForecastError.{ForecastError}
use Rattle.forecast_text.specs.declared.ending.ForecastError.TheVariants as error
use Rattle.std.specs.Prelude.{Ok, Err}
use Rattle.forecast_text.specs.Printed.{Forecast}
use Rattle.forecast.specs.Forecast.{opening_for, host_of, ended_at, RunsTo, FromOpened, Forecasts}
use Rattle.forecast.specs.Account.{strategy_of, most_of, Accounted, Accounts}
use Rattle.forecast.proofs.Turns.{played-point, journal-of}
use Rattle.forecast.proofs.BudgetLasts.{starts}
use Rattle.forecast.proofs.ModelRead.{rates_for, species_for}
use Rattle.forecast.proofs.HostsAgree.{model_host, reached, model-talks, model-fair}
use Rattle.state.specs.Talk.{Opened, call}

-- a forecast that tells the end e
abbrev pub tells : Reached → Forecast
tells e = Ok e

module _ (m : Model) (valid : Valid m) (r : Run) (q : Request) (p : Place) (memory : Memory)
    (opens : open_of (opening_for m) ≡ opening_outcome (Ok (call r q p)) memory)
    (e : Reached) (runs : RunsTo m (point r q p memory) (tells e)) where
  abbrev start : Point
  start = point r q p memory

  abbrev o : Opening
  o = opening_for m

  abbrev k : ℕ
  k = length runs.world.exchanges

  abbrev played-to : Journal
  played-to = played (strategy_of m) (journal start []) k

  -- the result of the run is told
  result-told : e.result
      ≡ demand.tells runs.run runs.talks.status runs.run.counts runs.run.notes
  result-told = let is = runs.told in cc

  status : e.result.status ≡ runs.talks.status
  status = ap (λ (x : IntegrationResult). x.status) result-told

  of : JournalOf o played-to
  of =
      journal-of (model_host m) o start
      (starts (length m.reactions) (rates_for m) (species_for m) o r q p memory opens) k
      (λ i l. model-fair m valid r q p memory opens i (runs.talks.before i l))

  last : played-to.point ≡ point runs.run (request.Ended e.result.status) Nowhere runs.world.memory
  last =
      played-point (model_host m) k start [] []
      ∙ ap (λ (t : Talk). t.point) runs.talks.talks
      ∙ ap (λ (s : Status). point runs.run (request.Ended s) Nowhere runs.world.memory) (sym status)

  same-counts : played-to.point.run.counts ≡ e.result.counts
  same-counts =
      ap (λ (here : Point). here.run.counts) last ∙ sym (ap (λ (x : IntegrationResult). x.counts) result-told)

  -- the notes, as the run keeps them and as its journal has them
  notes-are : runs.run.notes ≡ played-to.point.run.notes
  notes-are = sym (ap (λ (here : Point). here.run.notes) last)

  same-blame : e.result.blame ≡ blame_of e.result.status (notes_of played-to)
  same-blame =
      ap (λ (x : IntegrationResult). x.blame) result-told
      ∙ ap (λ (s : Status). blame_of s runs.run.notes) (sym status)
      ∙ ap (blame_of e.result.status) (notes-are ∙ notes-kept o played-to of)

  same-smallest : e.result.smallest ≡ smallest_of (steps_of played-to)
  same-smallest =
      ap (λ (x : IntegrationResult). x.smallest) result-told
      ∙ ap (λ (n : Notes). smallest_stride n.strides) notes-are ∙ (strides-kept o played-to of).smallest

  same-largest : e.result.largest ≡ largest_of (steps_of played-to)
  same-largest =
      ap (λ (x : IntegrationResult). x.largest) result-told
      ∙ ap (λ (n : Notes). largest_stride n.strides) notes-are ∙ (strides-kept o played-to of).largest

  few : k < most_of o
  few =
      let a = reached m valid r q p memory opens in
      let same = one_end offered (host_of m) start a.run runs.run a.world runs.world
      (model-talks m valid r q p memory opens) runs.talks in
      subst (λ (w : World). length w.exchanges < most_of o) same.1 a.few

  accounts : Accounted m e
  accounts =
      record {
        start = start;
        opens = opens;
        run = runs.run;
        world = runs.world;
        returns =
            (solve-offered (host_of m) o r q p memory opens (model-fair m valid r q p memory opens) runs.run
            runs.world).1 runs.talks;
        told = runs.told ∙ ap (λ (s : Status). ended_at runs.run s runs.world.memory.amounts.y) (sym status);
        few = few;
        journal = played-to;
        is = refl;
        of = of;
        last = last;
        counts = sym same-counts ∙ counts-told o played-to of;
        blame = same-blame;
        smallest = same-smallest;
        largest = same-largest;
        status = λ t. statuses o played-to of e.result.status t (ap (λ (here : Point). here.request) last);
        limits =
            subst (λ (x : Request). Limits o.settings e.result.counts x)
            (ap (λ (here : Point). here.request) last)
            (subst (λ (c : Counts). Limits o.settings c played-to.point.request)
            same-counts (limits o played-to of));
      }

-- ---- the theorem

-- a refusal tells no end
abbrev pub refuses : Forecast → Bool
refuses (Ok e) = false
refuses (Err x) = true

no_end : {X : Type 0} (e : Reached) (x : ForecastError) → tells e ≡ Err x → X
no_end e x is = absurd (true≢false (sym (ap refuses is)))

accounted-by : (m : Model) → Valid m → (a : Opened) (memory : Memory) → open_of (opening_for m) ≡ opening_outcome a
    memory
    → (e : Reached) → FromOpened m a memory (tells e) → Accounted m e
unfolding FromOpened
accounted-by m valid (Err x) memory opens e f = no_end e (error.Opening x) f
accounted-by m valid (Ok c) memory opens e f = accounts m valid c.run c.request c.place memory opens e f

accounts-by : (bytes : List ℕ) (x : Read) → read_of bytes ≡ x
    → (e : Reached) → Forecasts x (tells e) → Accounts bytes e
unfolding Forecasts
accounts-by bytes (accepted m) is e f =
    let o = open_of (opening_for m) in
    record {
      model = m;
      holds = is;
      accounted = accounted-by m (accepted-sound bytes m is).1 o.answer o.memory refl e f;
    }
accounts-by bytes (malformed k) is e f = no_end e (error.Malformed k) f
accounts-by bytes too_long is e f = no_end e error.TooLong f

pub forecast-accounts-proof : (bytes : List ℕ) (e : Reached)
    → Forecasts (read_of bytes) (tells e) → Accounts bytes e
forecast-accounts-proof bytes e f = accounts-by bytes (read_of bytes) refl e f
