-- `told` meets its contract.
use Prim.Native.Nat.{ℕ}
use mathlib.Core.Path.{◌≡◌, refl, sym, subst}
use mathlib.Core.List.{List}
use lib.Ieee.{Float}
use Rattle.state.specs.declared.run.Run.{Run}
use Rattle.state.specs.declared.talk.IntegrationResult.{IntegrationResult}
use Rattle.state.specs.declared.talk.Refusal.{Refusal}
use Rattle.state.specs.Result.{result_of}
use Rattle.forecast_text.specs.declared.ending.ForecastError.TheVariants as error
use Rattle.std.specs.Prelude.{Ok, Err}
use Rattle.forecast_text.specs.Printed.{Forecast}
use Rattle.model_run.specs.Budget.{Finish}
use Rattle.forecast.specs.Told.{Ends, Told}
use Rattle.forecast.proofs.told.told.Goals as goal
use Rattle.std.specs.Prelude.{Some}

module _ (n : ℕ) (y : List Float) (f : Finish) where
  refused : {told : Forecast} (x : Refusal) → f ≡ Err x
      → told ≡ Err (error.Opening x) → Told n f y told
  unfolding Told
  refused {told} x e is = subst (λ (g : Finish). Told n g y told) (sym e) is

  ended : (r : Run) (i : IntegrationResult) → f ≡ Ok r → result_of r ≡ Some i
      → Told n f y (Ok (record { result = i; species = n; amounts = y }))
  unfolding Told
  ended r i e is =
      subst
      (λ (g : Finish). Told n g y (Ok (record { result = i; species = n; amounts = y })))
      (sym e)
      (record { end = i; is = is; told = refl })

pub end_of-requires : goal.end_of-requires
unfolding Ends
end_of-requires c = subst Ends c.in-Ok.is c.requires

pub returns-in-Err : goal.returns-in-Err
returns-in-Err c = let a = c.args in
    refused a.n a.outcome.amounts a.outcome.finish _
    c.in-Err.is refl

pub returns-in-Ok : goal.returns-in-Ok
returns-in-Ok c = let a = c.args in
    ended a.n a.outcome.amounts a.outcome.finish _ c.end_of.result
    c.in-Ok.is c.end_of.ensures
