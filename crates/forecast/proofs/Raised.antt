-- Raising the limit of a sheet moves no forecast: the model's host knows nothing of it, so the run is the same unless
-- it ended with 2.
use Prim.Native.Nat.{ℕ, ◌≤◌}
use mathlib.Core.Bool.{false}
use mathlib.Core.Path.{◌≡◌, refl, sym, ap, ◌∙◌, subst}
use mathlib.Core.List.{List}
use Rattle.state.specs.declared.run.Status.{Status}
use Rattle.state.specs.declared.run.Stage.TheVariants as stage
use Rattle.state.specs.Memory.{Memory}
use Rattle.opening.specs.Opening.{OpeningOutcome, opening_outcome, open_of}
use Rattle.limit.specs.Limit.{run_with, Raises}
use Rattle.limit.proofs.Openings.{opened_with, opening-same}
use Rattle.limit.proofs.Theorems.{raising-keeps}
use Rattle.sheet.specs.Sheet.{Model, Valid}
use Rattle.sheet.specs.Reader.{Read, read_of}
use Rattle.sheet.proofs.Accepted.{accepted-sound}
use Rattle.forecast_text.specs.Printed.{Forecast, printed_of}
use Rattle.forecast.specs.Forecast.{opening_for, host_of, ended_at, FromOpened, Solved, Forecasts}
use Rattle.forecast.specs.Raised.{model_with, Raised, ends_over, SameForecast}
use Rattle.forecast.proofs.HostsAgree.{model-fair}
use Rattle.forecast.proofs.Solves.{one-forecast-proof}
use Rattle.std.specs.Prelude.{Ok, Err}
use Rattle.state.specs.Talk.{Opened}

module _ (m : Model) (valid : Valid m) (M : ℕ) (least : 1 ≤ m.max_steps) (raises : Raises m.max_steps M)
    (f : Forecast) (other : ends_over f ≡ false) where
  -- of the opening's answer the forecast with the larger limit tells the same
  raised_by : (a : Opened) (memory : Memory) → open_of (opening_for m) ≡ opening_outcome a memory
      → FromOpened m a memory f → (let x = opened_with M (opening_outcome a memory) in
      FromOpened (model_with M m) x.answer x.memory f)
  unfolding FromOpened
  raised_by (Err x) memory opens told = told
  raised_by (Ok c) memory opens runs =
      let a = runs.talks in
      let not-two = ap ends_over (sym runs.told) ∙ other in
      let same =
      raising-keeps M (host_of m) (opening_for m) c.run c.request c.place memory opens raises
      (model-fair m valid c.run c.request c.place memory opens)
      runs.run runs.world a not-two in
      let stages : stage.Ended a.status ≡ stage.Ended same.talks.status =
      sym a.stage ∙ same.talks.stage in
      let statuses : a.status ≡ same.talks.status = cc in
      record {
        run = run_with M runs.run;
        world = runs.world;
        talks = same.talks;
        told = runs.told ∙ ap (λ (s : Status). ended_at runs.run s runs.world.memory.amounts.y) statuses;
      }

  raised-solved : Solved m f → Solved (model_with M m) f
  raised-solved solved =
      let o = open_of (opening_for m) in
      subst (λ (x : OpeningOutcome). FromOpened (model_with M m) x.answer x.memory f)
      (sym (opening-same M (opening_for m) least raises.larger raises.permitted))
      (raised_by o.answer o.memory refl solved)

pub raised-forecast-proof : (sheet raised : List ℕ) → Raised sheet raised → (f : Forecast) → Forecasts (read_of sheet) f
    → ends_over f ≡ false → SameForecast raised f
unfolding Forecasts
raised-forecast-proof sheet raised x f told other =
    let m = x.model in
    let solved = subst (λ (y : Read). Forecasts y f) x.holds told in
    let valid = (accepted-sound sheet m x.holds).1 in
    let again = raised-solved m valid x.limit x.least x.raises f other solved in
    let forecasts = subst (λ (y : Read). Forecasts y f) (sym x.then-holds) again in
    record {
      forecasts = forecasts;
      prints = λ g h. ap printed_of (one-forecast-proof (read_of raised) g f h forecasts);
    }
