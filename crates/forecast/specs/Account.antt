-- What is accounted for where a forecast tells an end: `solve` in one piece, which calls the model's host, returns with
-- that end; and the run has a journal, by which the counts and the status that are told are true, and within whose
-- limits the counts stand (00, demand 3).
use Rattle.std.specs.Prelude.{ℕ, ◌<◌, ◌≡◌, List, [], length, Ok}
use Rattle.state.specs.declared.run.Run.{Run}
use Rattle.state.specs.declared.run.Status.{Status}
use Rattle.state.specs.declared.talk.Place.TheVariants.{Nowhere}
use Rattle.state.specs.declared.talk.Request.TheVariants as request
use Rattle.state.specs.Result.{blame_of}
use Rattle.opening.specs.Rows.{Opening}
use Rattle.opening.specs.Opening.{opening_outcome, open_of}
use Rattle.history.specs.History.{Point, point}
use Rattle.account.specs.Journal.{Journal, JournalOf}
use Rattle.account.specs.Journal as begun
use Rattle.account.specs.Strides.{steps_of, smallest_of, largest_of, notes_of}
use Rattle.account.specs.Reading.{says, same_status, counts_of, most_requests}
use Rattle.account.specs.Account.{Strategy, played, Limits}
use Rattle.solve_whole.specs.Talk.{World}
use Rattle.solve_whole.specs.Solve.{Returns}
use Rattle.sheet.specs.Sheet.{Model}
use Rattle.sheet.specs.Reader.{accepted, read_of}
use Rattle.forecast_text.specs.declared.ending.Reached.{Reached}
use Rattle.forecast.specs.Forecast.{opening_for, host_of, ended_at}
use Rattle.state.specs.Talk.{call}

-- the model's host as a whole
abbrev pub strategy_of : Model → Strategy
strategy_of m j = host_of m [] j.point.request j.point.place j.point.memory

-- as many requests as an opening may lead to
abbrev pub most_of : Opening → ℕ
most_of o = most_requests o.settings.source o.n o.settings.max_steps o.settings.newton_maxiter

-- of a model's forecast that tells the end e
pub record Accounted (m : Model) (e : Reached) : Type 0 where
  -- the opening is accepted
  pub start : Point
  pub opens : open_of (opening_for m)
      ≡ opening_outcome (Ok (call start.run start.request start.place)) start.memory
  -- `solve` returns with what is told, after fewer calls of the host than the account allows
  pub run : Run
  pub world : World
  pub returns : Returns (host_of m) start.run start.memory run world
  pub told : Ok e ≡ ended_at run e.result.status world.memory.amounts.y
  pub few : length world.exchanges < most_of (opening_for m)
  -- the journal of as many advances, each by the host's reply, stands at the same end
  pub journal : Journal
  pub is : journal ≡ played (strategy_of m) (begun.journal start []) (length world.exchanges)
  pub of : JournalOf (opening_for m) journal
  pub last : journal.point ≡ point run (request.Ended e.result.status) Nowhere world.memory
  -- its counts are told, with status 5 its latest singular decomposition, and the smallest and the largest |h| that it
  -- accepted; of the five conditions it meets that of the told status alone; and the counts are within their limits
  pub counts : e.result.counts ≡ counts_of journal
  pub blame : e.result.blame ≡ blame_of e.result.status (notes_of journal)
  pub smallest : e.result.smallest ≡ smallest_of (steps_of journal)
  pub largest : e.result.largest ≡ largest_of (steps_of journal)
  pub status : (t : Status) → says t journal.turns ≡ same_status e.result.status t
  pub limits : Limits (opening_for m).settings e.result.counts (request.Ended e.result.status)

-- the bytes are a model's sheet, and the end that is told of it is accounted for
pub record Accounts (bytes : List ℕ) (e : Reached) : Type 0 where
  pub model : Model
  pub holds : read_of bytes ≡ accepted model
  pub accounted : Accounted model e
