-- A run that is answered by a host up to its end.
use Rattle.std.specs.Prelude.{ℕ, zero, suc, ◌*◌, false, ◌≡◌, List, ◌++◌, leb, take, drop, Float, Ok, Err, Result}
use Rattle.words.specs.Loop.{pick}
use Rattle.state.specs.declared.run.Run.{Run}
use Rattle.state.specs.declared.run.Tolerances.TheVariants.{Scalars}
use Rattle.state.specs.declared.talk.Place.{Place}
use Rattle.state.specs.declared.talk.Refusal.{Refusal}
use Rattle.state.specs.declared.talk.Request.{Request}
use Rattle.opening.specs.Rows.{verdict_of}
use Rattle.opening.specs.Admission.{admission_rows}
use Rattle.state.specs.Memory.{Memory, memory, amounts, newton, given, factors, differences, zeros, noughts}
use Rattle.opening.specs.Rows.{Opening, opening}
use Rattle.opening.specs.Opening.{open_of}
use Rattle.solve_blocks.specs.Advance.{advance_of}
use Rattle.history.specs.Host.{is_end, Action, wrote}
use Rattle.history.specs.History.{Point, point, next_point}
use Rattle.model_run.specs.declared.run.Task.{Task}
use Rattle.model_run.specs.declared.run.TaskOutcome.{TaskOutcome}
use Rattle.model_run.specs.Host.{answered_by}
use Rattle.state.specs.Talk.{Opened, call, passed_all}

-- ---- turns

-- what a host does at a request, by the memory that is handed out
abbrev pub Answering : Type 0
Answering = Request → Place → Memory → Action

-- the host does what is asked, and the run is advanced by its reply
unfoldable pub turn_of : Answering → Point → Point
turn_of host here =
    let a = host here.request here.place here.memory in
    let o = (advance_of here.run a.reply (wrote here.request here.place a here.memory)).core in
    next_point here o.answer o.memory

-- k turns, but none after the end
unfoldable pub last_of : Answering → ℕ → Point → Point
last_of host zero here = here
last_of host (suc k) here = last_of host k (pick (is_end here.request) here (turn_of host here))

-- the host's reply to what is asked here is admitted
abbrev pub Admits : Answering → Point → Type 0
Admits host here =
    let a = host here.request here.place here.memory in
    verdict_of (admission_rows here.run a.reply (wrote here.request here.place a here.memory)) ≡ passed_all

-- no turn is refused before the end
abbrev pub NoneRefused : Answering → Point → Type 0
NoneRefused host start = (k : ℕ) → is_end (last_of host k start).request ≡ false → Admits host (last_of host k start)

-- how a task came out: the run as it stood at its end, or why its opening was refused
abbrev pub Finish : Type 0
Finish = Result Run Refusal

-- the run and the memory at a point
pub record Standing : Type 0 where
  pub run : Run
  pub memory : Memory

abbrev pub standing : Run → Memory → Standing
standing r m = record { run = r; memory = m }

abbrev pub standing_at : Point → Standing
standing_at here = standing here.run here.memory

-- 2 to the 28th
abbrev pub budget : ℕ
budget = 268_435_456

-- ---- from the opening to the end

-- how it came out, and the memory then
pub record Finished : Type 0 where
  pub finish : Finish
  pub memory : Memory

abbrev pub finished : Finish → Memory → Finished
finished f m = record { finish = f; memory = m }

unfoldable pub from_opened : Answering → Opened → Memory → Finished
from_opened host (Err x) m = finished (Err x) m
from_opened host (Ok c) m =
    let e = last_of host budget (point c.run c.request c.place m) in finished (Ok e.run) e.memory

unfoldable pub whole_of : Answering → Opening → Finished
whole_of host o = let x = open_of o in from_opened host x.answer x.memory

-- ---- a task, in memory of its own

-- the amounts, and +0 in every other part
abbrev pub lent_of : ℕ → List Float → Memory
lent_of n y =
    memory
    (amounts y (zeros n) (zeros n) (zeros (4 * n)))
    (newton (zeros n) (zeros n) (zeros n) (zeros n) (zeros n) (zeros n))
    (given (zeros n) (zeros n) (zeros (n * n)) (zeros (n * n)))
    (factors (zeros (n * n)) (zeros (n * n)) (zeros (n * n)) (noughts n) (noughts n))
    (differences (zeros n) (zeros n) (zeros n))

-- there is room for 32 amounts; an opening of more is refused
abbrev pub room_of : ℕ → ℕ
room_of n = pick (leb n 32) n 32

abbrev pub memory_of : Task → Memory
memory_of t = let n = room_of t.n in lent_of n (take n t.amounts)

abbrev pub opening_of : Task → Opening
opening_of t = opening t.settings t.n t.x0 t.xend (Scalars t.rtol t.atol) (memory_of t)

abbrev pub host_for : Task → List Float → List ℕ → Answering
host_for t rates species = answered_by t.reactions rates species

unfoldable pub run_of : Task → List Float → List ℕ → TaskOutcome
run_of t rates species =
    let f = whole_of (host_for t rates species) (opening_of t) in
    record { finish = f.finish; amounts = f.memory.amounts.y ++ drop (room_of t.n) t.amounts }

-- past an opening that was accepted, where it left the memory that it was given
unfoldable pub ran_of : Task → List Float → List ℕ → Run → Request → Place → TaskOutcome
ran_of t rates species r q p =
    let e = last_of (host_for t rates species) budget (point r q p (memory_of t)) in
    record { finish = Ok e.run; amounts = e.memory.amounts.y ++ drop (room_of t.n) t.amounts }
