-- `solve` in one piece and the advances of a run do the same: what a user cites, each theorem in words, its statement,
-- and where it is proved. `Returns` and `ReturnsWithin` stand in specs/Solve.antt, `TalksTo` and `FairTalk` in
-- specs/Talk.antt.
use mathlib.Core.Path.{◌≡◌}
use mathlib.Core.Logic.{◌↔◌}
use Rattle.state.specs.declared.run.Run.{Run}
use Rattle.state.specs.declared.talk.Place.{Place}
use Rattle.state.specs.declared.talk.Request.{Request}
use Rattle.state.specs.Memory.{Memory}
use Rattle.opening.specs.Rows.{Opening}
use Rattle.opening.specs.Opening.{opening_outcome, open_of}
use Rattle.history.specs.History.{point}
use Rattle.account.specs.Demand.{most}
use Rattle.solve_whole.specs.Talk.{Host, World, admitted, offered, FairTalk, TalksTo}
use Rattle.solve_whole.specs.Solve.{Returns, ReturnsWithin}
use Rattle.solve_whole.proofs.Talks.{solve-exactly-proof}
use Rattle.solve_whole.proofs.Offered.{solve-offered-proof, solve-returns-proof}
use Rattle.std.specs.Prelude.{Ok}
use Rattle.state.specs.Talk.{call}

-- Of every host and every accepted opening: `solve` returns with a run, memory and exchanges exactly where the
-- advances, each of a reply that is admitted, lead to them.
pub solve-exactly : (host : Host) (o : Opening) (r : Run) (q : Request) (p : Place) (m : Memory)
    → open_of o ≡ opening_outcome (Ok (call r q p)) m
    → (e : Run) (w : World) → Returns host r m e w ↔ TalksTo admitted host (point r q p m) e w
solve-exactly = solve-exactly-proof

-- Of a host that is fair before the end the same holds of the advances as they are offered, refusals and all.
pub solve-offered : (host : Host) (o : Opening) (r : Run) (q : Request) (p : Place) (m : Memory)
    → open_of o ≡ opening_outcome (Ok (call r q p)) m → FairTalk host (point r q p m)
    → (e : Run) (w : World) → Returns host r m e w ↔ TalksTo offered host (point r q p m) e w
solve-offered = solve-offered-proof

-- And for such a host `solve` does return, with fewer calls of the host than the account allows requests.
pub solve-returns : (host : Host) (o : Opening) (r : Run) (q : Request) (p : Place) (m : Memory)
    → open_of o ≡ opening_outcome (Ok (call r q p)) m → FairTalk host (point r q p m)
    → ReturnsWithin (most o) host r m
solve-returns = solve-returns-proof
