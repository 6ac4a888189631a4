-- What is promised of a run with a budget, beside its contract: what a user cites, in words, as a statement, and where
-- it is proved.
use mathlib.Core.Path.{◌≡◌}
use mathlib.Core.List.{List}
use Prim.Native.Nat.{ℕ}
use lib.Ieee.{Float}
use Rattle.state.specs.declared.run.Run.{Run}
use Rattle.state.specs.declared.talk.Place.{Place}
use Rattle.state.specs.declared.talk.Request.{Request}
use Rattle.opening.specs.Opening.{open_of}
use Rattle.history.specs.History.{point}
use Rattle.model_run.specs.declared.run.Task.{Task}
use Rattle.model_run.specs.Budget.{NoneRefused, host_for, memory_of, opening_of}
use Rattle.model_run.proofs.NoneRefused.{none-refused-proof}
use Rattle.std.specs.Prelude.{Ok}
use Rattle.state.specs.Talk.{Opened, call}

-- No turn of a task that was opened, up to its end, is one that an advance would refuse.
pub none-refused : (t : Task) (rates : List Float) (species : List ℕ) {a : Opened}
    (r : Run) (q : Request) (p : Place) → a ≡ (open_of (opening_of t)).answer → a ≡ Ok (call r q p)
    → NoneRefused (host_for t rates species) (point r q p (memory_of t))
none-refused = none-refused-proof
