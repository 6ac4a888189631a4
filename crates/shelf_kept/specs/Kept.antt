-- The steps that a journal accepted since its last modified point, and the shelf of a host that puts a step there at
-- each report after the first and empties it when it replies 'modified' (02, [10]).
use Rattle.std.specs.Prelude.{Bool, true, false, ◌||◌, List, [], ◌∷◌, Ok, Err, Float}
use Rattle.words.specs.Loop.{pick}
use Rattle.state.specs.declared.talk.Reply.{Reply}
use Rattle.state.specs.declared.talk.Reply.TheVariants as reply
use Rattle.state.specs.declared.talk.Request.{Request}
use Rattle.state.specs.declared.talk.Request.TheVariants as request
use Rattle.solve_blocks.specs.Events.{Event}
use Rattle.history.specs.History.{Point}
use Rattle.account.specs.Journal.{Turn, Journal}
use Rattle.account.specs.Reading.{is_report, later_all}
use Rattle.shelf.specs.declared.answers.Shelf.{Shelf}
use Rattle.shelf.specs.Shelf.{Step, step, empty_shelf}
use Rattle.shelf.specs.Answers.{Placing, Placed}
use Rattle.shelf.specs.Put.{put_of}

-- ---- the steps that were accepted

-- the step of a point: its coefficients, its old point and the step that is held
abbrev pub step_held : Point → Step
step_held here = step here.memory.amounts.cont here.run.numbers.xold here.run.numbers.h

-- an attempt was accepted in an advance
abbrev pub accepts : List Event → Bool
accepts es = later_all es false

unfoldable pub modifies : Reply → Bool
modifies reply.Filled = false
modifies reply.Continue = false
modifies reply.Interrupt = false
modifies (reply.Modified x) = true
modifies (reply.Mark x) = false

-- Since the last modified point, the newest first. A step is that of the point to which its acceptance led: `here` for
-- the latest turn.
unfoldable pub steps_accepted : Point → List Turn → List Step
steps_accepted here [] = []
steps_accepted here (t ∷ ts) =
    let before = pick (modifies t.action.reply) [] (steps_accepted t.here ts) in
    pick (accepts t.events) (step_held here ∷ before) before

-- the latest advance accepted a step, whose report is still to come
unfoldable pub unreported : List Turn → Bool
unreported [] = false
unreported (t ∷ ts) = accepts t.events

-- ---- the host's shelf

-- a report was answered
unfoldable pub reported_in : List Turn → Bool
reported_in [] = false
reported_in (t ∷ ts) = is_report t.here.request || reported_in ts

-- the shelf, and its two parts of memory
pub record Beside : Type 0 where
  pub shelf : Shelf
  pub coefficients : List Float
  pub ends : List Float

abbrev pub beside : Shelf → List Float → List Float → Beside
beside s coefficients ends = record { shelf = s; coefficients = coefficients; ends = ends }

-- what the host goes on with: the shelf that `put` gave it, or the one that it had
unfoldable pub shelf_after : Placing → Shelf → Shelf
shelf_after (Ok s) old = s
shelf_after (Err e) old = old

abbrev pub after_put : Placed → Beside → Beside
after_put o b = beside (shelf_after o.answer b.shelf) o.coefficients o.ends

-- the host calls `put` with the point's coefficients, the old point xold and the held step
abbrev pub put_with : Point → Float → Beside → Beside
put_with here xold b =
    after_put
    (put_of b.shelf here.memory.amounts.cont xold here.run.numbers.h b.coefficients b.ends) b

-- at a report, with the old point that it tells
unfoldable pub put_at_report : Request → Point → Beside → Beside
put_at_report (request.Derivative x) here b = b
put_at_report (request.Jacobian x) here b = b
put_at_report (request.Report xold x offered) here b = put_with here xold b
put_at_report (request.Ended s) here b = b

-- after the first one
abbrev pub reported_beside : List Turn → Point → Beside → Beside
reported_beside ts here b = pick (reported_in ts) (put_at_report here.request here b) b

abbrev pub replied_beside : Reply → Beside → Beside
replied_beside p b = pick (modifies p) (beside empty_shelf b.coefficients b.ends) b

-- past the turns of a journal
unfoldable pub beside_after : Beside → List Turn → Beside
beside_after b [] = b
beside_after b (t ∷ ts) = replied_beside t.action.reply (reported_beside ts t.here (beside_after b ts))

-- where it stands, a report that is open put on the shelf already
abbrev pub beside_now : Beside → Journal → Beside
beside_now b j = reported_beside j.turns j.point (beside_after b j.turns)
