-- Raising the limit of steps moves no forecast: what a user cites, each theorem in words, its statement, and where it
-- is proved. `Raises`, `Unmoved` and `Continued` stand in specs/Limit.antt, `Host` and `TalksTo` in solve_whole's
-- specs/Talk.antt: a host knows the requests, replies and memory so far and not the run, so not its limit.
use Prim.Native.Nat.{ℕ}
use mathlib.Core.Bool.{false}
use mathlib.Core.Path.{◌≡◌}
use Rattle.state.specs.declared.run.Run.{Run}
use Rattle.state.specs.declared.talk.Place.{Place}
use Rattle.state.specs.declared.talk.Request.{Request}
use Rattle.state.specs.Memory.{Memory}
use Rattle.opening.specs.Rows.{Opening}
use Rattle.opening.specs.Opening.{opening_outcome, open_of}
use Rattle.history.specs.History.{point}
use Rattle.solve_whole.specs.Talk.{Host, World, offered, FairTalk, TalksTo}
use Rattle.limit.specs.Limit.{point_with, Raises, is_over, Unmoved, Continued}
use Rattle.limit.proofs.Talks.{raising-keeps-proof, raising-continues-proof}
use Rattle.std.specs.Prelude.{Ok}
use Rattle.state.specs.Talk.{call}

-- A run that ended with any status but 2 is the same under every larger permitted limit: the same requests, replies
-- and memory on the way, the same memory, counts and result, and the same end but for the limit itself.
pub raising-keeps : (M : ℕ) (host : Host) (o : Opening) (r : Run) (q : Request) (p : Place) (m : Memory)
    → open_of o ≡ opening_outcome (Ok (call r q p)) m → Raises o.settings.max_steps M
    → FairTalk host (point r q p m)
    → (e : Run) (w : World) (ended : TalksTo offered host (point r q p m) e w) → is_over ended.status ≡ false
    → Unmoved M host o (point r q p m) e w
raising-keeps = raising-keeps-proof

-- A run that ended, with 2 or else, has what was exchanged before its end as the beginning of the longer run, which
-- comes to an end of its own wherever the host is fair to it too.
pub raising-continues : (M : ℕ) (host : Host) (o : Opening) (r : Run) (q : Request) (p : Place) (m : Memory)
    → open_of o ≡ opening_outcome (Ok (call r q p)) m → Raises o.settings.max_steps M
    → FairTalk host (point r q p m)
    → (e : Run) (w : World) → TalksTo offered host (point r q p m) e w → FairTalk host (point_with M (point r q p m))
    → Continued M host o (point r q p m) w
raising-continues = raising-continues-proof
