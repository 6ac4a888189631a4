-- The points of a run, and what was asked at each (02, [1]), read off a journal. A run is at a new point when an
-- attempt is accepted, and when the host modifies the point at a report, whatever its numbers.
use Rattle.std.specs.Prelude.{ℕ, ◌+◌, ◌≤◌, ◌≡◌, Bool, true, false, List, [], ◌∷◌}
use Rattle.words.specs.Loop.{pick}
use Rattle.state.specs.declared.talk.Place.{Place}
use Rattle.state.specs.declared.talk.Reply.{Reply}
use Rattle.state.specs.declared.talk.Reply.TheVariants as reply
use Rattle.state.specs.declared.talk.Request.{Request}
use Rattle.solve_blocks.specs.Events.{Event, real-singular, complex-singular, factored, over-limit, too_small, begun}
use Rattle.solve_blocks.specs.Events.{rounds-used, diverged, slow, error-solve, failed, accepted, aimed, not-aimed}
use Rattle.account.specs.Journal.{Turn, Journal}
use Rattle.account.specs.Reading.{one, is_jac, asks_at, counts_of}

-- at the present point: the Jacobians that were asked and answered, and whether an attempt has failed
pub record Here : Type 0 where
  pub jacobians : ℕ
  pub failed : Bool

abbrev pub here : ℕ → Bool → Here
here jacobians missed = record { jacobians = jacobians; failed = missed }

abbrev pub new_point : Here
new_point = here 0 false

-- an attempt fails by a singular matrix, by Newton, the slow verdict among it, or by the error test
unfoldable pub here_event : Event → Here → Here
here_event (real-singular h k) p = here p.jacobians true
here_event (complex-singular h k) p = here p.jacobians true
here_event (factored h) p = p
here_event over-limit p = p
here_event (too_small h x) p = p
here_event (begun h x) p = p
here_event (rounds-used k) p = here p.jacobians true
here_event (diverged theta) p = here p.jacobians true
here_event (slow dyth) p = here p.jacobians true
here_event error-solve p = p
here_event (failed err) p = here p.jacobians true
here_event (accepted err h) p = new_point
here_event (aimed x hnew) p = p
here_event (not-aimed x hnew) p = p

unfoldable pub here_events : List Event → Here → Here
here_events [] p = p
here_events (e ∷ es) p = here_events es (here_event e p)

-- whether a reply puts the run at another point
unfoldable pub moves : Reply → Bool
moves reply.Filled = false
moves reply.Continue = false
moves reply.Interrupt = false
moves (reply.Modified x) = true
moves (reply.Mark x) = false

-- a request is answered
abbrev pub here_reply : Request → Place → Reply → Here → Here
here_reply q w a p = pick (moves a) new_point (here (p.jacobians + one (is_jac q w)) p.failed)

unfoldable pub here_at : List Turn → Here
here_at [] = new_point
here_at (t ∷ ts) =
    here_events t.events (here_reply t.here.request t.here.place t.action.reply (here_at ts))

-- with the open request among them
abbrev pub jacobians_here : Journal → ℕ
jacobians_here j = (here_at j.turns).jacobians + one (is_jac j.point.request j.point.place)

-- what the book rule promises of its Jacobians, at every request of a run
pub record Fresh (j : Journal) : Type 0 where
  -- none is asked twice at one point
  pub once : jacobians_here j ≤ 1
  -- where an attempt has failed, the stages of the next, and its refinement, are asked with a Jacobian of this point
  pub stages : (asks_at j.point.place).attempt ≡ true → (here_at j.turns).failed ≡ true
      → (here_at j.turns).jacobians ≡ 1
  -- so there are at most as many as points where an attempt began: the first, and each accepted one
  pub few : (counts_of j).jac ≤ (counts_of j).accepted + 1
