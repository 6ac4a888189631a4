-- How a journal is read: the counts that it gives, and what became of its attempts. Nothing here looks at a counter or
-- a flag of a run: a journal is read by its requests with their places, by the replies, and by the events.
use Rattle.std.specs.Prelude.{ℕ, ◌+◌, ◌*◌, Bool, true, false, not, ◌&&◌, ◌||◌, List, [], ◌∷◌, eqb, ltb, Float}
use Rattle.words.specs.Constants.{«0·0»}
use Rattle.words.specs.Loop.{pick}
use Rattle.state.specs.declared.settings.Source.{Source}
use Rattle.state.specs.declared.settings.Source.TheVariants as source
use Rattle.state.specs.declared.run.Counts.{Counts}
use Rattle.state.specs.declared.run.Status.{Status}
use Rattle.state.specs.declared.run.Status.TheVariants as status
use Rattle.state.specs.declared.talk.Place.{Place}
use Rattle.state.specs.declared.talk.Place.TheVariants as place
use Rattle.state.specs.declared.talk.Reply.{Reply}
use Rattle.state.specs.declared.talk.Reply.TheVariants as reply
use Rattle.state.specs.declared.talk.Request.{Request}
use Rattle.state.specs.declared.talk.Request.TheVariants as request
use Rattle.state.specs.Numbers.{status_number}
use Rattle.solve_blocks.specs.Setters.{counts}
use Rattle.solve_blocks.specs.Report.{is_interrupt}
use Rattle.solve_blocks.specs.Events.{Event, real-singular, complex-singular, factored, over-limit, too_small, begun}
use Rattle.solve_blocks.specs.Events.{rounds-used, diverged, slow, error-solve, failed, accepted, aimed, not-aimed}
use Rattle.account.specs.Journal.{Turn, Journal}

-- ---- what a list comes to, each of its entries with a weight

abbrev pub one : Bool → ℕ
one b = pick b 1 0

unfoldable pub many : {A : Type 0} → (A → ℕ) → List A → ℕ
many weight [] = 0
many weight (a ∷ rest) = weight a + many weight rest

-- ---- kinds of requests

unfoldable pub is_report : Request → Bool
is_report (request.Derivative x) = false
is_report (request.Jacobian x) = false
is_report (request.Report xold x offered) = true
is_report (request.Ended s) = false

-- what a derivative request at a place is
pub record Asks : Type 0 where
  -- counted in ode, which leaves out those for a difference Jacobian
  pub ode : Bool
  -- the first of a difference Jacobian
  pub origin : Bool
  -- into f0: at the start, at an accepted point, and straight after a report that modified the point
  pub f0 : Bool
  -- into z1: the first stage of a Newton round
  pub z1 : Bool
  -- within an attempt: a stage, or the refinement of the error; the refinement
  pub attempt : Bool
  pub refines : Bool

abbrev asks : Bool → Bool → Bool → Bool → Bool → Bool → Asks
asks ode origin f0 z1 attempt refines =
    record { ode = ode; origin = origin; f0 = f0; z1 = z1; attempt = attempt; refines = refines }

-- in this order: ode, origin, f0, z1, attempt, refines
unfoldable pub asks_at : Place → Asks
asks_at place.Nowhere = asks false false false false false false
asks_at place.YToF0 = asks true false true false false false
asks_at place.ContToZ1 = asks true false false true true false
asks_at place.ContToZ2 = asks true false false false true false
asks_at place.ContToZ3 = asks true false false false true false
asks_at place.ContToF1 = asks true false false false true true
asks_at place.YToFOrigin = asks false true false false false false
asks_at place.YPerturbedToFPerturbed = asks false false false false false false

unfoldable pub is_ode : Request → Place → Bool
is_ode (request.Derivative x) p = (asks_at p).ode
is_ode (request.Jacobian x) p = false
is_ode (request.Report xold x offered) p = false
is_ode (request.Ended s) p = false

-- jac counts the Jacobians: one asked of the host, or one by differences, which begins with the derivative at the point
unfoldable pub is_jac : Request → Place → Bool
is_jac (request.Derivative x) p = (asks_at p).origin
is_jac (request.Jacobian x) p = true
is_jac (request.Report xold x offered) p = false
is_jac (request.Ended s) p = false

-- ---- kinds of events

pub record Means : Type 0 where
  -- an attempt is begun, over the limit and too small too; the decompositions tried, and the first error solve
  pub total : ℕ
  pub lu : ℕ
  pub accepted : ℕ
  pub failed : ℕ
  pub slow : ℕ
  -- the Newton rounds are used up, or diverge
  pub spent : ℕ
  -- one over the limit; a step that is too small
  pub over : ℕ
  pub small : ℕ
  pub solves : ℕ

abbrev means : ℕ → ℕ → ℕ → ℕ → ℕ → ℕ → ℕ → ℕ → ℕ → Means
means t l a f s n o m e =
    record { total = t; lu = l; accepted = a; failed = f; slow = s; spent = n; over = o; small = m; solves = e }

-- a pass whose E1 is singular has tried one decomposition, every other two (radau.rs:390-407)
-- in this order: total, lu, accepted, failed, slow, spent, over, small, solves
unfoldable pub means_of : Event → Means
means_of (real-singular h k) = means 0 1 0 0 0 0 0 0 0
means_of (complex-singular h k) = means 0 2 0 0 0 0 0 0 0
means_of (factored h) = means 0 2 0 0 0 0 0 0 0
means_of over-limit = means 1 0 0 0 0 0 1 0 0
means_of (too_small h x) = means 1 0 0 0 0 0 0 1 0
means_of (begun h x) = means 1 0 0 0 0 0 0 0 0
means_of (rounds-used k) = means 0 0 0 0 0 1 0 0 0
means_of (diverged theta) = means 0 0 0 0 0 1 0 0 0
means_of (slow dyth) = means 0 0 0 0 1 0 0 0 0
means_of error-solve = means 0 1 0 0 0 0 0 0 1
means_of (failed err) = means 0 0 0 1 0 0 0 0 0
means_of (accepted err h) = means 0 0 1 0 0 0 0 0 0
means_of (aimed x hnew) = means 0 0 0 0 0 0 0 0 0
means_of (not-aimed x hnew) = means 0 0 0 0 0 0 0 0 0

-- in all turns
unfoldable pub happened : (Means → ℕ) → List Turn → ℕ
happened kind [] = 0
happened kind (t ∷ ts) = many (λ (e : Event). kind (means_of e)) t.events + happened kind ts

-- ---- before the first acceptance, or after it

-- an attempt was accepted, by this event or before it
unfoldable pub later : Event → Bool → Bool
later e b = ltb 0 (means_of e).accepted || b

unfoldable pub later_all : List Event → Bool → Bool
later_all [] b = b
later_all (e ∷ es) b = later_all es (later e b)

unfoldable pub accepted_in : List Turn → Bool
accepted_in [] = false
accepted_in (t ∷ ts) = later_all t.events (accepted_in ts)

-- rejected are the slow verdicts, and the error tests that failed after an acceptance (01); b: there was one before
unfoldable pub rejected_by : Bool → Event → ℕ
rejected_by b (real-singular h k) = 0
rejected_by b (complex-singular h k) = 0
rejected_by b (factored h) = 0
rejected_by b over-limit = 0
rejected_by b (too_small h x) = 0
rejected_by b (begun h x) = 0
rejected_by b (rounds-used k) = 0
rejected_by b (diverged theta) = 0
rejected_by b (slow dyth) = 1
rejected_by b error-solve = 0
rejected_by b (failed err) = one b
rejected_by b (accepted err h) = 0
rejected_by b (aimed x hnew) = 0
rejected_by b (not-aimed x hnew) = 0

unfoldable pub rejections : Bool → List Event → ℕ
rejections b [] = 0
rejections b (e ∷ es) = rejected_by b e + rejections (later e b) es

unfoldable pub rejected_in : List Turn → ℕ
rejected_in [] = 0
rejected_in (t ∷ ts) = rejections (accepted_in ts) t.events + rejected_in ts

-- ---- how far a run has come

pub record Progress : Type 0 where
  -- the point of the latest report, or the one that the host put in its place; before the first report it says nothing
  pub x : Float
  pub attempts : ℕ
  -- of the attempt at hand: the requests for its first stage that were answered
  pub rounds : ℕ

abbrev pub progress : Float → ℕ → ℕ → Progress
progress x attempts rounds = record { x = x; attempts = attempts; rounds = rounds }

abbrev pub an_attempt : Progress → Progress
an_attempt g = progress g.x (g.attempts + 1) g.rounds

unfoldable pub progress_event : Event → Progress → Progress
progress_event (real-singular h k) g = g
progress_event (complex-singular h k) g = g
progress_event (factored h) g = g
progress_event over-limit g = an_attempt g
progress_event (too_small h x) g = an_attempt g
progress_event (begun h x) g = progress g.x (g.attempts + 1) 0
progress_event (rounds-used k) g = g
progress_event (diverged theta) g = g
progress_event (slow dyth) g = g
progress_event error-solve g = g
progress_event (failed err) g = g
progress_event (accepted err h) g = g
progress_event (aimed x hnew) g = g
progress_event (not-aimed x hnew) g = g

unfoldable pub progress_events : List Event → Progress → Progress
progress_events [] g = g
progress_events (e ∷ es) g = progress_events es (progress_event e g)

-- where a report at x leaves the run
unfoldable pub reported_at : Float → Reply → Float
reported_at x reply.Filled = x
reported_at x reply.Continue = x
reported_at x reply.Interrupt = x
reported_at x (reply.Modified v) = v
reported_at x (reply.Mark v) = x

unfoldable pub progress_reply : Request → Place → Reply → Progress → Progress
progress_reply (request.Derivative x) p a g = progress g.x g.attempts (g.rounds + one (asks_at p).z1)
progress_reply (request.Jacobian x) p a g = g
progress_reply (request.Report xold x offered) p a g = progress (reported_at x a) g.attempts g.rounds
progress_reply (request.Ended s) p a g = g

-- past the reply of a turn, before its events; and past them
unfoldable pub progress_at : List Turn → Progress
progress_at [] = progress «0·0» 0 0
progress_at (t ∷ ts) =
    progress_events t.events (progress_reply t.here.request t.here.place t.action.reply (progress_at ts))

-- ---- where the attempts stand

pub record Standing : Type 0 where
  -- the attempt at hand, or the next, is aimed at the end point
  pub aim : Bool
  -- failures since the last acceptance, or the opening
  pub failures : ℕ
  -- an aimed attempt was accepted, and its report isn't answered yet
  pub awaited : Bool
  -- it is answered, and not by an interrupt
  pub landed : Bool

abbrev pub standing : Bool → ℕ → Bool → Bool → Standing
standing aim failures awaited landed =
    record { aim = aim; failures = failures; awaited = awaited; landed = landed }

abbrev pub failure : Standing → Standing
failure s = standing false (s.failures + 1) s.awaited s.landed

abbrev pub aiming : Bool → Standing → Standing
aiming b s = standing b s.failures s.awaited s.landed

-- a failure, a slow verdict and a failed error test, counted or not, end an aim (01)
unfoldable pub past_event : Event → Standing → Standing
past_event (real-singular h k) s = failure s
past_event (complex-singular h k) s = failure s
past_event (factored h) s = s
past_event over-limit s = s
past_event (too_small h x) s = s
past_event (begun h x) s = s
past_event (rounds-used k) s = failure s
past_event (diverged theta) s = failure s
past_event (slow dyth) s = aiming false s
past_event error-solve s = s
past_event (failed err) s = aiming false s
past_event (accepted err h) s = standing s.aim 0 s.aim s.landed
past_event (aimed x hnew) s = aiming true s
past_event (not-aimed x hnew) s = aiming false s

unfoldable pub past_events : List Event → Standing → Standing
past_events [] s = s
past_events (e ∷ es) s = past_events es (past_event e s)

-- a report is answered
abbrev pub past_reply : Request → Reply → Standing → Standing
past_reply q p s =
    pick (is_report q)
    (standing s.aim s.failures false (s.landed || s.awaited && not (is_interrupt p)))
    s

unfoldable pub standing_at : List Turn → Standing
standing_at [] = standing false 0 false false
standing_at (t ∷ ts) = past_events t.events (past_reply t.here.request t.action.reply (standing_at ts))

-- ---- the requests, the open one among them

-- a request, its place, and the rounds that its attempt has done
pub record Question : Type 0 where
  pub request : Request
  pub place : Place
  pub rounds : ℕ

abbrev pub question : Request → Place → ℕ → Question
question q p k = record { request = q; place = p; rounds = k }

unfoldable pub asked_in : List Turn → List Question
asked_in [] = []
asked_in (t ∷ ts) = question t.here.request t.here.place (progress_at ts).rounds ∷ asked_in ts

-- the latest first
abbrev pub questions : Journal → List Question
questions j = question j.point.request j.point.place (progress_at j.turns).rounds ∷ asked_in j.turns

-- an acceptance asks for a derivative into f0, neither as the first request nor straight after a report
unfoldable pub acceptances : List Question → ℕ
acceptances [] = 0
acceptances (q ∷ []) = 0
acceptances (q ∷ before ∷ qs) =
    one ((asks_at q.place).f0 && not (is_report before.request)) + acceptances (before ∷ qs)

-- the first stage of an attempt: asked with no round done
unfoldable pub first_stage : Question → ℕ
first_stage q = one ((asks_at q.place).z1 && eqb q.rounds 0)

-- ---- the six counts of a journal (01, 'How a run talks')

abbrev pub counts_of : Journal → Counts
counts_of j =
    counts
    (many (λ (q : Question). one (is_ode q.request q.place)) (questions j))
    (many (λ (q : Question). one (is_jac q.request q.place)) (questions j))
    (happened (λ (e : Means). e.lu) j.turns)
    (happened (λ (e : Means). e.total) j.turns)
    (acceptances (questions j))
    (rejected_in j.turns)

-- ---- how a run that has ended ended

unfoldable pub interrupted_in : List Turn → Bool
interrupted_in [] = false
interrupted_in (t ∷ ts) = is_interrupt t.action.reply || interrupted_in ts

-- 0: an aimed attempt was accepted and its report not interrupted; 1: a report was interrupted;
-- 2: an attempt was one over the limit; 3: a step was too small; 5: six failures since the last acceptance
unfoldable pub says : Status → List Turn → Bool
says status.Success ts = (standing_at ts).landed
says status.UserInterrupt ts = interrupted_in ts
says status.NeedLargerNMax ts = ltb 0 (happened (λ (e : Means). e.over) ts)
says status.StepSizeTooSmall ts = ltb 0 (happened (λ (e : Means). e.small) ts)
says status.SingularMatrix ts = eqb (standing_at ts).failures 6

-- by their numbers
abbrev pub same_status : Status → Status → Bool
same_status s t = eqb (status_number s) (status_number t)

-- ---- how many requests there can be, for n amounts, M permitted steps and K Newton rounds

-- the requests of one Jacobian
unfoldable pub width : Source → ℕ → ℕ
width source.Host n = 1
width source.Differences n = n + 1

abbrev pub most_requests : Source → ℕ → ℕ → ℕ → ℕ
most_requests s n M K = 2 + 3 * (K + 1) * M + 6 * (M + 1) * width s n + (M + 1) + 1
