-- What the run of a sheet begins with: the task of its model and the answer to its opening. A sheet that is refused,
-- by the reader or by the opening, begins no run.
use Rattle.std.specs.Prelude.{ℕ, List, map, Ok, Err, None, Some, Option}
use Rattle.words.specs.Words.{double}
use Rattle.opening.specs.Opening.{open_of}
use Rattle.sheet.specs.Reader.{Read, accepted, malformed, too_long, heading_of, amounts_left}
use Rattle.sheet.specs.declared.sheet.Heading.{Heading}
use Rattle.model_run.specs.Budget.{opening_of}
use Rattle.model_run.specs.declared.run.Task.{Task}
use Rattle.forecast.specs.Told.{task_from}
use Rattle.state.specs.Talk.{Opened, call}
use Rattle.reports.specs.declared.beginning.Begun.{Begun}

-- the first request of a task that was opened
unfoldable pub begun_by : Task → Opened → Option Begun
begun_by t (Err x) = None
begun_by t (Ok c) =
    Some (record {
      n = t.n;
      reactions = t.reactions;
      pending = record { run = c.run; request = c.request; place = c.place };
    })

-- of a heading, and of amounts as the reader leaves them
unfoldable pub opened_from : Heading → List ℕ → Option Begun
opened_from h amounts = let t = task_from h (map double amounts) in begun_by t (open_of (opening_of t)).answer

-- of what was read, over the memory that was lent for the amounts
unfoldable pub begin_of : Read → List ℕ → Option Begun
begin_of (accepted m) amounts = opened_from (heading_of m) (amounts_left (accepted m) amounts)
begin_of (malformed k) amounts = None
begin_of too_long amounts = None
