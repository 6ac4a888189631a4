-- `end_of` meets its contract: of a run that has ended there is a result.
use Prim.Native.Nat.{ℕ}
use mathlib.Core.Path.{◌≡◌, sym, ap, ◌∙◌}
use native.Mathlib.Omega.{arith}
use Rattle.state.specs.declared.run.Run.{Run}
use Rattle.state.specs.Result.{result_at, result_of}
use Rattle.forecast.specs.Told.{Over}
use Rattle.forecast.proofs.told.end_of.Goals as goal
use Rattle.std.specs.Prelude.{None}

not-without : (r : Run) → Over r → result_of r ≡ None → ⊥
unfolding result_at
not-without r o e = let is = sym (ap (result_at r) o.is) ∙ e in let z : ◌≡◌ {A = ℕ} 0 1 = cc in omega arith

pub never-requires : goal.never-requires
never-requires c = sym c.result.ensures ∙ c.in-None.is

pub returns-in-Some : goal.returns-in-Some
returns-in-Some c = sym c.result.ensures ∙ c.in-Some.is

pub returns-in-None : goal.returns-in-None
returns-in-None c = absurd (not-without _ c.requires
    (sym c.result.ensures ∙ c.in-None.is))
