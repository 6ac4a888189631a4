-- A history of calls: an opening that was accepted, and then outcomes of advances, each of them any that the contract
-- allows for what the host did at the request before.
use Rattle.std.specs.Prelude.{List, [], ◌∷◌, Ok}
use Rattle.opening.specs.Rows.{Opening}
use Rattle.opening.specs.Opening as opened
use Rattle.solve_blocks.specs.Advance.{AdvanceOutcome}
use Rattle.history.specs.Host.{Action, wrote}
use Rattle.history.specs.History.{Point, next_point}
use Rattle.account.specs.Journal.{Fair}
use Rattle.calls.specs.Calls.{Opens, Advances}
use Rattle.state.specs.Talk.{call}

-- what an advance may give at a point, for what the host did there
unfoldable pub Allowed : Point → Action → AdvanceOutcome → Type 0
Allowed here a x = Advances (here.run, a.reply, wrote here.request here.place a here.memory) x

-- outcomes that follow one another from a point, for the actions of a host
unfoldable pub Follows : Point → List Action → List AdvanceOutcome → Type 0
Follows here [] [] = Unit
Follows here [] (x ∷ xs) = ⊥
Follows here (a ∷ acts) [] = ⊥
Follows here (a ∷ acts) (x ∷ xs) = Allowed here a x × Follows (next_point here x.answer x.memory) acts xs

-- and from an opening whose first request stands at a point
pub record History (o : Opening) (first : Point) (acts : List Action) (xs : List AdvanceOutcome) : Type 0 where
  pub opens : Opens o (opened.opening_outcome (Ok (call first.run first.request first.place)) first.memory)
  pub follows : Follows first acts xs

-- where the talk stands behind the outcomes
unfoldable pub behind : Point → List AdvanceOutcome → Point
behind here [] = here
behind here (x ∷ xs) = behind (next_point here x.answer x.memory) xs

-- each action is fair where it is taken
unfoldable pub FairAlong : Point → List Action → List AdvanceOutcome → Type 0
FairAlong here [] xs = Unit
FairAlong here (a ∷ acts) [] = ⊥
FairAlong here (a ∷ acts) (x ∷ xs) = Fair here a × FairAlong (next_point here x.answer x.memory) acts xs
