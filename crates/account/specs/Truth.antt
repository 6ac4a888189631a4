-- What makes an event of a run true. An event carries the numbers that decided it, and its truth is the Rust's own test
-- on those numbers, spelled out here: no definition of `solve_blocks` makes it so. The numbers that an event doesn't
-- carry are those of the opening o, of the memory m in which its advance worked, and of the history before it: how far
-- the run had come (g) and where its attempts stood (st). A NaN meets no test: neither `le` nor `lt` holds of it.
use Rattle.std.specs.Prelude.{◌*◌, ◌≤◌, ◌<◌, ◌≡◌, Bool, true, false, List, [], ◌∷◌, Float}
use Rattle.std.specs.Float.Ieee.{le, lt}
use Rattle.words.specs.Words.{◌⊕◌, ◌⊖◌, ◌⊗◌, ◌⊘◌}
use Rattle.words.specs.Constants.{«0·0», «1·0», «0·99», «0·1»}
use Rattle.scalar.specs.Order.{abs_of, signum_of}
use Rattle.matrix.specs.Answers.{Stop, nowhere, column}
use Rattle.matrix.specs.Complex.{parts}
use Rattle.matrix.specs.Elimination.{worked}
use Rattle.matrix.specs.Lu.{real}
use Rattle.matrix.specs.LuComplex.{complex_kind}
use Rattle.state.specs.Memory.{Memory, zeros, noughts}
use Rattle.opening.specs.Rows.{Opening}
use Rattle.solve_blocks.specs.Entries.{Three, three}
use Rattle.solve_blocks.specs.Matrices.{built_of}
use Rattle.solve_blocks.specs.Events.{Event, real-singular, complex-singular, factored, over-limit, too_small, begun}
use Rattle.solve_blocks.specs.Events.{rounds-used, diverged, slow, error-solve, failed, accepted, aimed, not-aimed}
use Rattle.account.specs.Journal.{Turn, Journal}
use Rattle.account.specs.Reading.{Progress, progress_event, progress_reply, progress_at}
use Rattle.account.specs.Reading.{Standing, past_event, past_reply, standing_at}

-- ---- the matrices of a pass, made with h of the mass and the Jacobian in m (radau.rs:377-388)

abbrev room : Opening → List Float
room o = zeros (o.n * o.n)

abbrev pub made_of : Opening → Memory → Float → Three
made_of o m h =
    built_of o.settings.mass o.n m.given.mass m.given.jac h (three (room o) (room o) (room o))

-- where the elimination of E1 stops (radau.rs:392), and that of E2 (radau.rs:407)
abbrev pub e1_at : Opening → Memory → Float → Stop
e1_at o m h = (worked real o.n (made_of o m h).one (noughts o.n)).stop

abbrev pub e2_at : Opening → Memory → Float → Stop
e2_at o m h = (worked complex_kind o.n (parts (made_of o m h).two (made_of o m h).three) (noughts o.n)).stop

-- ---- the tests

-- the step h is too small at x, or it isn't (radau.rs:430)
abbrev pub TooSmall : Opening → Float → Float → Bool → Type 0
TooSmall o h x b = le («0·1» ⊗ abs_of h) (abs_of x ⊗ o.settings.uround) ≡ b

-- a step of hnew from x reaches the end point, or it doesn't (radau.rs:250, 306, 764)
abbrev pub Reaches : Opening → Float → Float → Bool → Type 0
Reaches o x hnew b =
    le «0·0» ((x ⊕ hnew ⊘ «1·0» ⊖ o.xend) ⊗ signum_of (o.xend ⊖ o.x0)) ≡ b

-- the step of an aimed attempt is what is left to the end point (radau.rs:765)
abbrev pub Aims : Opening → Standing → Progress → Float → Type 0
Aims o st g h = st.aim ≡ true → h ≡ o.xend ⊖ g.x

-- ---- the truth of an event

unfoldable pub True : Opening → Memory → Standing → Progress → Event → Type 0
-- a zero pivot at that column, of the very matrices of this pass; E2 is not tried where E1 stops (radau.rs:390-419)
True o m st g (real-singular h k) = e1_at o m h ≡ column k
True o m st g (complex-singular h k) = (e1_at o m h ≡ nowhere) × (e2_at o m h ≡ column k)
True o m st g (factored h) = (e1_at o m h ≡ nowhere) × (e2_at o m h ≡ nowhere)
-- so many attempts were begun before it as are permitted (radau.rs:424)
True o m st g over-limit = o.settings.max_steps ≤ g.attempts
True o m st g (too_small h x) = (g.attempts < o.settings.max_steps) × (x ≡ g.x) × TooSmall o h x true
True o m st g (begun h x) =
    (g.attempts < o.settings.max_steps) × (x ≡ g.x) × TooSmall o h x false × Aims o st g h
-- so many rounds of this attempt were asked for as are permitted (radau.rs:484)
True o m st g (rounds-used k) = (k ≡ g.rounds) × (o.settings.newton_maxiter ≤ k)
-- theta is not below 0.99 (radau.rs:571)
True o m st g (diverged theta) = lt theta «0·99» ≡ false
-- dyth is at least 1.0 (radau.rs:574-575)
True o m st g (slow dyth) = le «1·0» dyth ≡ true
-- a round was done; that each solve is judged once is the ledger's matter (Account.antt)
True o m st g error-solve = 1 ≤ g.rounds
-- err is at most 1.0, or it isn't (radau.rs:676)
True o m st g (failed err) = le err «1·0» ≡ false
True o m st g (accepted err h) = (le err «1·0» ≡ true) × Aims o st g h
True o m st g (aimed x hnew) = (x ≡ g.x) × Reaches o x hnew true
True o m st g (not-aimed x hnew) = (x ≡ g.x) × Reaches o x hnew false

-- all that happened in an advance is true, each event where it stands
unfoldable pub AllTrue : Opening → Memory → Standing → Progress → List Event → Type 0
AllTrue o m st g [] = Unit
AllTrue o m st g (e ∷ es) = True o m st g e × AllTrue o m (past_event e st) (progress_event e g) es

-- in all turns; the advance of the latest worked in the memory m, that of each one before in what it handed out
unfoldable pub TrueIn : Opening → Memory → List Turn → Type 0
TrueIn o m [] = Unit
TrueIn o m (t ∷ ts) =
    AllTrue o m (past_reply t.here.request t.action.reply (standing_at ts))
    (progress_reply t.here.request t.here.place t.action.reply (progress_at ts)) t.events
    × TrueIn o t.here.memory ts

abbrev pub EventsTrue : Opening → Journal → Type 0
EventsTrue o j = TrueIn o j.point.memory j.turns
