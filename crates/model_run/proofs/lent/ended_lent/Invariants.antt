-- What each loop of `ended_lent` keeps.
use Prim.Native.Nat.{ℕ, ◌-◌}
use mathlib.Core.List.{List}
use lib.Ieee.{Float}
use Rattle.state.specs.Lent.{memory_of, SameWork}
use Rattle.history.specs.History.{Point, point}
use Rattle.radau_core.specs.Places.{run_at, Sized}
use Rattle.model_run.specs.Host.{answered_by}
use Rattle.model_run.specs.Budget.{Answering, budget}
use Rattle.model_run.proofs.TurnLaws.{Going}
use Rattle.model_run.proofs.lent.ended_lent.Given as goal

-- so many turns led here, in arrays of their lengths
pub record Led (host : Answering) (i : ℕ) (here₀ here : Point) (w : List ℕ) (d : List Float) : Type 0 where
  pub sized : Sized w d
  pub turns : Going host budget i here₀ here

abbrev pub invariant-loop : goal.invariant-loop
invariant-loop l =
    SameWork l.work l.initial.work
    × Led (answered_by l.reactions l.rates l.species) l.counter
    (point (run_at l.initial.words l.initial.doubles) l.initial.here.request l.initial.here.place
    (memory_of l.initial.y l.initial.f0 l.rtol l.atol l.mass l.initial.work))
    (point (run_at l.words l.doubles) l.here.request l.here.place
    (memory_of l.y l.f0 l.rtol l.atol l.mass l.work))
    l.words l.doubles

abbrev pub decreases-loop : goal.decreases-loop
decreases-loop l = budget - l.counter
