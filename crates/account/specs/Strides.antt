-- The strides of a run, read off its history (02, [7]): |h| of every attempt that was accepted, with the h held then, a
-- NaN passed over. The smallest and the largest are folds over all of them, and +0 where there are none.
use Rattle.std.specs.Prelude.{◌≡◌, List, [], ◌∷◌, Float, None, Some, Option}
use Rattle.std.specs.Float.Ieee.{is_nan}
use Rattle.words.specs.Constants.{«0·0»}
use Rattle.words.specs.Loop.{pick}
use Rattle.scalar.specs.Order.{abs_of, max_of, min_of}
use Rattle.state.specs.declared.run.Notes.{Notes}
use Rattle.state.specs.Numbers.{smallest_stride, largest_stride}
use Rattle.solve_blocks.specs.Events.{Event, real-singular, complex-singular, factored, over-limit, too_small, begun}
use Rattle.solve_blocks.specs.Events.{rounds-used, diverged, slow, error-solve, failed, accepted, aimed, not-aimed}
use Rattle.account.specs.Journal.{Turn, Journal}
use Rattle.account.specs.Latest.{Latest, latest_of, kept_of}
use Rattle.state.specs.declared.run.Strides.{Strides}
use Rattle.state.specs.Talk.{stride_pair}

-- ---- the steps that were accepted, the latest first

unfoldable pub step_event : Event → List Float → List Float
step_event (real-singular h k) hs = hs
step_event (complex-singular h k) hs = hs
step_event (factored h) hs = hs
step_event over-limit hs = hs
step_event (too_small h x) hs = hs
step_event (begun h x) hs = hs
step_event (rounds-used k) hs = hs
step_event (diverged theta) hs = hs
step_event (slow dyth) hs = hs
step_event error-solve hs = hs
step_event (failed err) hs = hs
step_event (accepted err h) hs = h ∷ hs
step_event (aimed x hnew) hs = hs
step_event (not-aimed x hnew) hs = hs

unfoldable pub step_events : List Event → List Float → List Float
step_events [] hs = hs
step_events (e ∷ es) hs = step_events es (step_event e hs)

unfoldable pub steps_in : List Turn → List Float
steps_in [] = []
steps_in (t ∷ ts) = step_events t.events (steps_in ts)

abbrev pub steps_of : Journal → List Float
steps_of j = steps_in j.turns

-- ---- their strides

unfoldable pub strides_of : List Float → List Float
strides_of [] = []
strides_of (h ∷ hs) = pick (is_nan h) (strides_of hs) (abs_of h ∷ strides_of hs)

-- the best of a and those before it, two by two
unfoldable pub best_with : (Float → Float → Float) → Float → List Float → Float
best_with best a [] = a
best_with best a (b ∷ bs) = best (best_with best b bs) a

unfoldable pub best_of : (Float → Float → Float) → List Float → Float
best_of best [] = «0·0»
best_of best (a ∷ rest) = best_with best a rest

abbrev pub smallest_of : List Float → Float
smallest_of hs = best_of min_of (strides_of hs)

abbrev pub largest_of : List Float → Float
largest_of hs = best_of max_of (strides_of hs)

-- ---- what the run keeps

unfoldable pub kept_strides : List Float → Option Strides
kept_strides [] = None
kept_strides (a ∷ rest) = Some (stride_pair (best_with min_of a rest) (best_with max_of a rest))

-- the notes of a history with this latest singular decomposition and these accepted steps
abbrev pub kept_notes : Latest → List Float → Notes
kept_notes l hs = record { singular = kept_of l; strides = kept_strides (strides_of hs) }

abbrev pub notes_of : Journal → Notes
notes_of j = kept_notes (latest_of j) (steps_of j)

pub record StridesKept (j : Journal) : Type 0 where
  pub kept : j.point.run.notes.strides ≡ kept_strides (strides_of (steps_of j))
  pub smallest : smallest_stride j.point.run.notes.strides ≡ smallest_of (steps_of j)
  pub largest : largest_stride j.point.run.notes.strides ≡ largest_of (steps_of j)
