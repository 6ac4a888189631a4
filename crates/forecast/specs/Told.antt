-- From the heading of a sheet to a task, and from its outcome to what is told.
use Rattle.std.specs.Prelude.{ℕ, ◌≡◌, List, map, Float, Ok, Err, Some}
use Rattle.words.specs.Words.{double}
use Rattle.state.specs.declared.run.Run.{Run}
use Rattle.state.specs.declared.run.Stage.TheVariants as stage
use Rattle.state.specs.declared.run.Status.{Status}
use Rattle.state.specs.declared.talk.IntegrationResult.{IntegrationResult}
use Rattle.state.specs.Result.{result_of}
use Rattle.sheet.specs.declared.sheet.Heading.{Heading}
use Rattle.model_run.specs.Budget.{Finish}
use Rattle.model_run.specs.declared.run.Task.{Task}
use Rattle.model_run.specs.declared.run.TaskOutcome.{TaskOutcome}
use Rattle.model_run.specs.Budget.{run_of}
use Rattle.forecast_text.specs.declared.ending.ForecastError.TheVariants as error
use Rattle.forecast_text.specs.Printed.{Forecast}
use Rattle.forecast.specs.Forecast.{settings_of}

abbrev pub task_from : Heading → List Float → Task
task_from h amounts =
    record {
      settings = settings_of h.max_steps h.rule;
      n = h.species;
      x0 = double h.x0;
      xend = double h.xend;
      rtol = double h.rtol;
      atol = double h.atol;
      amounts = amounts;
      reactions = h.reactions;
    }

-- the run of a heading, and of amounts, rates and species as the reader leaves them
abbrev pub outcome_from : Heading → List ℕ → List ℕ → List ℕ → TaskOutcome
outcome_from h amounts rates species = run_of (task_from h (map double amounts)) (map double rates) species

-- the run has ended
pub record Over (r : Run) : Type 0 where
  pub status : Status
  pub is : r.stage ≡ stage.Ended status

unfoldable pub Ends : Finish → Type 0
Ends (Err x) = Unit
Ends (Ok r) = Over r

-- f tells the result of the ended run, and n amounts
pub record ToldEnd (n : ℕ) (r : Run) (amounts : List Float) (f : Forecast) : Type 0 where
  pub end : IntegrationResult
  pub is : result_of r ≡ Some end
  pub told : f ≡ Ok (record { result = end; species = n; amounts = amounts })

unfoldable pub Told : ℕ → Finish → List Float → Forecast → Type 0
Told n (Err x) amounts f = f ≡ Err (error.Opening x)
Told n (Ok r) amounts f = ToldEnd n r amounts f
