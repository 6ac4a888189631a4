-- `modelled` meets its contract.
use Prim.Native.Nat.{ℕ}
use mathlib.Core.Path.{◌≡◌, sym, ap, ◌∙◌, subst}
use mathlib.Core.List.{List, map}
use lib.Ieee.{Float}
use Rattle.words.specs.Words.{double}
use Rattle.sheet.specs.declared.sheet.Heading.{Heading}
use Rattle.model_run.specs.declared.run.Task.{Task}
use Rattle.model_run.specs.declared.run.TaskOutcome.{TaskOutcome}
use Rattle.model_run.specs.Budget.{run_of}
use Rattle.forecast.specs.Told.{task_from, outcome_from, Ends, Told}
use Rattle.forecast.proofs.BudgetLasts.{run-ends-proof}
use Rattle.forecast.proofs.told.modelled.Goals as goal

module _ (h : Heading) (amounts rates species : List ℕ) {floats speeds : List Float} {t : Task} {o : TaskOutcome} where
  outcome-is : floats ≡ map double amounts → speeds ≡ map double rates → t ≡ task_from h floats
      → o ≡ run_of t speeds species → o ≡ outcome_from h amounts rates species
  outcome-is f s is ran =
      ran
      ∙ ap (λ (x : Task). run_of x speeds species) (is ∙ ap (task_from h) f)
      ∙ ap (λ (x : List Float). run_of (task_from h (map double amounts)) x species) s

pub told-requires : goal.told-requires
told-requires c = subst (λ (o : TaskOutcome). Ends o.finish) (sym c.run.ensures) (run-ends-proof _ _ _)

pub returns : goal.returns
returns c = let a = c.args in
    subst (λ (o : TaskOutcome). Told a.heading.species o.finish o.amounts c.told.result)
    (outcome-is a.heading a.amounts.now a.rates.now a.species.now
    c.amounts_from.ensures
    c.rates_from-speeds.ensures
    c.task_from-task.ensures
    c.run.ensures)
    c.told.ensures
