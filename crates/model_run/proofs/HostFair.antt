-- The host of a model is fair, whatever the memory holds: a derivative that is refused leaves the part as it was, and
-- one that is made has its length.
use Prim.Native.Nat.{ℕ}
use mathlib.Core.Bool.{false, true≢false}
use mathlib.Core.Path.{◌≡◌, refl}
use mathlib.Core.List.{List}
use lib.Ieee.{Float}
use Rattle.state.specs.declared.run.Run.{Run}
use Rattle.state.specs.declared.talk.Place.{Place}
use Rattle.state.specs.declared.talk.Request.{Request}
use Rattle.state.specs.declared.talk.Request.TheVariants as request
use Rattle.state.specs.Memory.{Memory}
use Rattle.history.specs.Host.{is_end, part_at}
use Rattle.history.specs.History.{point}
use Rattle.account.specs.Journal.{of_kind, SameLength, Fair}
use Rattle.model.proofs.Theorems.{length-kept}
use Rattle.model_run.specs.Host.{source_at, reply_to, answered_by}

pub host-fair : (reactions : ℕ) (rates : List Float) (species : List ℕ) (r : Run) (q : Request) (p : Place) (m : Memory)
    → is_end q ≡ false
    → Fair (point r q p m) (answered_by reactions rates species q p m)
unfolding is_end of_kind SameLength reply_to answered_by
host-fair reactions rates species r (request.Derivative x) p m e =
    record { kind = refl; kept = length-kept reactions (source_at p m) rates species (part_at p m) }
host-fair reactions rates species r (request.Jacobian x) p m e = record { kind = refl; kept = refl }
host-fair reactions rates species r (request.Report xold x offered) p m e = record { kind = refl; kept = refl }
host-fair reactions rates species r (request.Ended s) p m e = absurd (true≢false e)
