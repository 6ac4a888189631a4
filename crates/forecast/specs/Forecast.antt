-- The forecast of a sheet: 21 and 20 as the reader tells them; then, of its model, opening's refusal; and else the end
-- that the run comes to, each of its requests being answered by the model's host.
use Rattle.std.specs.Prelude.{ℕ, ◌-◌, ◌≡◌, List, [], ◌++◌, map, length, Float, Ok, Err}
use Rattle.words.specs.Words.{double}
use Rattle.state.specs.declared.settings.Mass.TheVariants.{Identity}
use Rattle.state.specs.declared.settings.Rule.{Rule}
use Rattle.state.specs.declared.settings.Settings.{Settings}
use Rattle.state.specs.declared.run.Run.{Run}
use Rattle.state.specs.declared.run.Status.{Status}
use Rattle.state.specs.declared.run.Tolerances.TheVariants.{Scalars}
use Rattle.state.specs.declared.talk.Place.{Place}
use Rattle.state.specs.declared.talk.Request.{Request}
use Rattle.state.specs.declared.talk.Request.TheVariants as request
use Rattle.state.specs.Settings.{defaults_of}
use Rattle.state.specs.Memory.{Memory, zeros}
use Rattle.opening.specs.Rows.{Opening, opening}
use Rattle.opening.specs.Opening.{open_of}
use Rattle.history.specs.Host.{Action}
use Rattle.account.specs.Demand.{tells}
use Rattle.history.specs.History.{Point, point}
use Rattle.solve_whole.specs.Talk.{Host, World, offered, TalksTo}
use Rattle.model.specs.Model.{reaction, derivative_of}
use Rattle.model.specs.Model as model
use Rattle.sheet.specs.Sheet as sheet
use Rattle.sheet.specs.Reader.{Read, accepted, malformed, too_long}
use Rattle.forecast_text.specs.declared.ending.ForecastError.TheVariants as error
use Rattle.forecast_text.specs.Printed.{Forecast}
use Rattle.model_run.specs.Host.{source_at, action}
use Rattle.model_run.specs.Budget.{lent_of}
use Rattle.state.specs.Talk.{Opened}

-- ---- what a model opens with

-- max_steps and the rule of the sheet, the mass Identity, and every other setting by default
abbrev pub settings_of : ℕ → Rule → Settings
settings_of steps rule =
    let d = defaults_of in
    record {
      max_steps = steps;
      uround = d.uround;
      safety_factor = d.safety_factor;
      scale_min = d.scale_min;
      scale_max = d.scale_max;
      max_step = d.max_step;
      min_step = d.min_step;
      newton_maxiter = d.newton_maxiter;
      newton_tol = d.newton_tol;
      predictive = d.predictive;
      nind1 = d.nind1;
      nind2 = d.nind2;
      nind3 = d.nind3;
      mass = Identity;
      source = d.source;
      first_step = d.first_step;
      dense_output = d.dense_output;
      rule = rule;
    }

abbrev pub opening_for : sheet.Model → Opening
opening_for m =
    let n = length m.amounts in
    opening (settings_of m.max_steps m.rule) n (double m.x0) (double m.xend)
    (Scalars (double m.rtol) (double m.atol)) (lent_of n (map double m.amounts))

-- ---- its host

abbrev pub reaction_for : sheet.Reaction → model.Reaction
reaction_for r = reaction (double r.rate) r.reactant1 r.reactant2 r.product1 r.product2

-- asked for a derivative it fills in that of its reactions; a Jacobian is not asked for, since it
-- is made by differences
unfoldable pub done : List model.Reaction → Request → Place → Memory → Action
done rs (request.Derivative x) p m = action (request.Derivative x) (derivative_of (source_at p m) rs) m
done rs (request.Jacobian x) p m = action (request.Jacobian x) m.given.jac m
done rs (request.Report xold x offered) p m = action (request.Report xold x offered) [] m
done rs (request.Ended s) p m = action (request.Ended s) [] m

-- what was exchanged before makes no difference
abbrev pub host_of : sheet.Model → Host
host_of m es q p memory = done (map reaction_for m.reactions) q p memory

-- ---- how it ends

-- what is told of the end: the result, and the amounts, with +0 in the room behind them
abbrev pub ended_at : Run → Status → List Float → Forecast
ended_at e s y =
    Ok (record {
      result = tells e s e.counts e.notes;
      species = length y;
      amounts = y ++ zeros (32 - length y);
    })

-- the advances from `start` on, by the host's replies, come to an end, and f tells it
pub record RunsTo (m : sheet.Model) (start : Point) (f : Forecast) : Type 0 where
  pub run : Run
  pub world : World
  pub talks : TalksTo offered (host_of m) start run world
  pub told : f ≡ ended_at run talks.status world.memory.amounts.y

unfoldable pub FromOpened : sheet.Model → Opened → Memory → Forecast → Type 0
FromOpened m (Err x) memory f = f ≡ Err (error.Opening x)
FromOpened m (Ok c) memory f = RunsTo m (point c.run c.request c.place memory) f

abbrev pub Solved : sheet.Model → Forecast → Type 0
Solved m f = let o = open_of (opening_for m) in FromOpened m o.answer o.memory f

-- of what was read, f is the forecast
unfoldable pub Forecasts : Read → Forecast → Type 0
Forecasts (accepted m) f = Solved m f
Forecasts (malformed k) f = f ≡ Err (error.Malformed k)
Forecasts too_long f = f ≡ Err error.TooLong
