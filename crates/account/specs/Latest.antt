-- The latest singular decomposition of a run, read off its history (02, [3]): a fold over all that happened, whatever
-- was accepted in between. The run keeps of it, in its notes, which matrix it was and the column.
use Rattle.std.specs.Prelude.{ℕ, ◌≡◌, List, [], ◌∷◌, Float, None, Some, Option}
use Rattle.matrix.specs.Answers.{nowhere, column}
use Rattle.state.specs.Memory.{Memory}
use Rattle.opening.specs.Rows.{Opening}
use Rattle.solve_blocks.specs.Events.{Event, real-singular, complex-singular, factored, over-limit, too_small, begun}
use Rattle.solve_blocks.specs.Events.{rounds-used, diverged, slow, error-solve, failed, accepted, aimed, not-aimed}
use Rattle.account.specs.Journal.{Turn, Journal}
use Rattle.account.specs.Truth.{e1_at, e2_at}
use Rattle.state.specs.declared.run.Singular.{Singular}
use Rattle.state.specs.declared.run.Singular.TheVariants.{Real, Complex}

-- the memory in which the advance of its pass worked, the step h of that pass, and the column
pub data Latest : Type 0 where
  never : Latest
  real-at complex-at : Memory → Float → ℕ → Latest

unfoldable pub latest_event : Memory → Event → Latest → Latest
latest_event m (real-singular h k) l = real-at m h k
latest_event m (complex-singular h k) l = complex-at m h k
latest_event m (factored h) l = l
latest_event m over-limit l = l
latest_event m (too_small h x) l = l
latest_event m (begun h x) l = l
latest_event m (rounds-used k) l = l
latest_event m (diverged theta) l = l
latest_event m (slow dyth) l = l
latest_event m error-solve l = l
latest_event m (failed err) l = l
latest_event m (accepted err h) l = l
latest_event m (aimed x hnew) l = l
latest_event m (not-aimed x hnew) l = l

unfoldable pub latest_events : Memory → List Event → Latest → Latest
latest_events m [] l = l
latest_events m (e ∷ es) l = latest_events m es (latest_event m e l)

-- in all turns; the advance of the latest worked in the memory m, that of each one before in what it handed out
unfoldable pub latest_in : Memory → List Turn → Latest
latest_in m [] = never
latest_in m (t ∷ ts) = latest_events m t.events (latest_in t.here.memory ts)

abbrev pub latest_of : Journal → Latest
latest_of j = latest_in j.point.memory j.turns

-- ---- what is kept of it, and what makes it true

unfoldable pub kept_of : Latest → Option Singular
kept_of never = None
kept_of (real-at m h k) = Some (Real k)
kept_of (complex-at m h k) = Some (Complex k)

-- the elimination of the very matrix of its pass stops at that column; E2 is not tried where E1 stops
unfoldable pub OfItsPass : Opening → Latest → Type 0
OfItsPass o never = Unit
OfItsPass o (real-at m h k) = e1_at o m h ≡ column k
OfItsPass o (complex-at m h k) = (e1_at o m h ≡ nowhere) × (e2_at o m h ≡ column k)

pub record LatestKept (o : Opening) (j : Journal) : Type 0 where
  pub kept : j.point.run.notes.singular ≡ kept_of (latest_of j)
  pub pass : OfItsPass o (latest_of j)
