-- The journal of a run: from an accepted opening on, where the talk stood at each request, all that the host did there,
-- and what happened up to the next request.
use Rattle.std.specs.Prelude.{◌≡◌, Bool, true, false, List, [], ◌∷◌, length, Ok}
use Rattle.state.specs.declared.talk.Place.{Place}
use Rattle.state.specs.declared.talk.Reply.{Reply}
use Rattle.state.specs.declared.talk.Reply.TheVariants as reply
use Rattle.state.specs.declared.talk.Request.{Request}
use Rattle.state.specs.declared.talk.Request.TheVariants as request
use Rattle.state.specs.Memory.{Memory}
use Rattle.opening.specs.Rows.{Opening}
use Rattle.opening.specs.Opening as opening
use Rattle.opening.specs.Opening.{open_of}
use Rattle.solve_blocks.specs.Events.{Event}
use Rattle.solve_blocks.specs.Advance.{advance_of}
use Rattle.history.specs.Host.{part_at, Action, wrote}
use Rattle.history.specs.History.{Point, next_point}
use Rattle.state.specs.Talk.{call}

-- ---- what a host may do

-- a report is answered by continue, interrupt, modified or a mark, every other request by 'filled', an ended run by
-- nothing
unfoldable pub of_kind : Request → Reply → Bool
of_kind (request.Derivative x) reply.Filled = true
of_kind (request.Derivative x) reply.Continue = false
of_kind (request.Derivative x) reply.Interrupt = false
of_kind (request.Derivative x) (reply.Modified v) = false
of_kind (request.Derivative x) (reply.Mark v) = false
of_kind (request.Jacobian x) reply.Filled = true
of_kind (request.Jacobian x) reply.Continue = false
of_kind (request.Jacobian x) reply.Interrupt = false
of_kind (request.Jacobian x) (reply.Modified v) = false
of_kind (request.Jacobian x) (reply.Mark v) = false
of_kind (request.Report xold x offered) reply.Filled = false
of_kind (request.Report xold x offered) reply.Continue = true
of_kind (request.Report xold x offered) reply.Interrupt = true
of_kind (request.Report xold x offered) (reply.Modified v) = true
of_kind (request.Report xold x offered) (reply.Mark v) = true
of_kind (request.Ended s) p = false

-- what is written has the length of what stood there: lent memory doesn't grow
unfoldable pub SameLength : Request → Place → Action → Memory → Type 0
SameLength (request.Derivative x) p a m = length a.part ≡ length (part_at p m)
SameLength (request.Jacobian x) p a m = length a.part ≡ length m.given.jac
SameLength (request.Report xold x offered) p a m = length a.amounts ≡ length m.amounts.y
SameLength (request.Ended s) p a m = Unit

-- a host that replies in the kind asked for and writes what it may write
pub record Fair (here : Point) (a : Action) : Type 0 where
  pub kind : of_kind here.request a.reply ≡ true
  pub kept : SameLength here.request here.place a here.memory

-- ---- what is kept of an advance

pub record Turn : Type 0 where
  -- where the talk stood: the run, the open request with its place, and the memory that was handed out
  pub here : Point
  -- what the host did: its reply, and what it wrote
  pub action : Action
  -- what happened up to the next request, in its order
  pub events : List Event

abbrev pub turn : Point → Action → List Event → Turn
turn here a es = record { here = here; action = a; events = es }

-- where the talk stands, and the turns before, the latest first
pub record Journal : Type 0 where
  pub point : Point
  pub turns : List Turn

abbrev pub journal : Point → List Turn → Journal
journal here ts = record { point = here; turns = ts }

-- one advance more
unfoldable pub next : Journal → Action → Journal
next j a =
    let here = j.point in
    let l = advance_of here.run a.reply (wrote here.request here.place a here.memory) in
    journal (next_point here l.core.answer l.core.memory) (turn here a l.log ∷ j.turns)

-- the advances that follow one another, each by a fair action of the host; none stands after the end, to which no reply
-- is of the kind asked for
unfoldable pub FairFrom : Journal → List Action → Type 0
FairFrom j [] = Unit
FairFrom j (a ∷ acts) = Fair j.point a × FairFrom (next j a) acts

unfoldable pub after : Journal → List Action → Journal
after j [] = j
after j (a ∷ acts) = after (next j a) acts

-- the journal of an opening that was accepted: its first request is open
unfoldable pub Starts : opening.OpeningOutcome → Journal → Type 0
Starts x j =
    x.answer ≡ Ok (call j.point.run j.point.request j.point.place)
    × x.memory ≡ j.point.memory × j.turns ≡ []

-- j is a journal of the opening o, by some fair actions of a host
pub record JournalOf (o : Opening) (j : Journal) : Type 0 where
  pub first : Journal
  pub starts : Starts (open_of o) first
  pub acts : List Action
  pub fair : FairFrom first acts
  pub is : j ≡ after first acts
