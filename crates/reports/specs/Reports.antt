-- The reported points of a run: those of its journal, and those at which the steps from report to report stop.
use Rattle.std.specs.Prelude.{ℕ, zero, suc, List, [], ◌∷◌, ◌++◌, map, Float, take}
use Rattle.words.specs.Words.{double}
use Rattle.words.specs.Loop.{pick}
use Rattle.state.specs.declared.talk.Request.{Request}
use Rattle.state.specs.declared.talk.Request.TheVariants as request
use Rattle.history.specs.Host.{is_end}
use Rattle.history.specs.History.{Point, point}
use Rattle.account.specs.Journal.{Turn}
use Rattle.state.specs.Memory.{noughts}
use Rattle.sheet.specs.Reader.{Read, amounts_left, rates_left, species_left}
use Rattle.model_run.specs.Host.{answered_by}
use Rattle.model_run.specs.Budget.{Answering, budget, lent_of}
use Rattle.reports.specs.declared.beginning.Begun.{Begun}
use Rattle.reports.specs.Step.{told_of}

-- a reported point, with its amounts
pub record Reported : Type 0 where
  pub x : Float
  pub amounts : List Float

abbrev pub reported : Float → List Float → Reported
reported x y = record { x = x; amounts = y }

-- the point that a request reports; another request reports none
unfoldable pub report_at : Request → List Float → List Reported
report_at (request.Derivative x) y = []
report_at (request.Jacobian x) y = []
report_at (request.Report xold x offered) y = reported x y ∷ []
report_at (request.Ended s) y = []

abbrev pub report_here : Point → List Reported
report_here here = report_at here.request here.memory.amounts.y

-- the reports of a journal, whose latest turn stands first
unfoldable pub reports_in : List Turn → List Reported
reports_in [] = []
reports_in (t ∷ ts) = reports_in ts ++ report_here t.here

-- the reports that are met from here on, in k steps at most, up to the end
unfoldable pub met_from : Answering → ℕ → Point → List Reported
met_from host zero here = []
met_from host (suc k) here =
    let next = told_of host budget here in pick (is_end next.request) [] (report_here next ++ met_from host k next)

-- the first request of a run that was begun, with the memory that it is lent: its amounts, and +0 elsewhere
abbrev pub start_at : Begun → List Float → Point
start_at b y = point b.pending.run b.pending.request b.pending.place (lent_of b.n (take b.n y))

-- the points of a sheet's run, of amounts, rates and species as the reader leaves them
abbrev pub points_of : Begun → List ℕ → List ℕ → List ℕ → List Reported
points_of b amounts rates species =
    met_from (answered_by b.reactions (map double rates) species) budget (start_at b (map double amounts))

-- the points of what was read, in memory that was 0
abbrev pub points_read : Begun → Read → List Reported
points_read b x = points_of b (amounts_left x (noughts 32)) (rates_left x (noughts 64)) (species_left x (noughts 256))
