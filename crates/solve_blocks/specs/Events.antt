-- What happens in a run besides its requests. An event is written by the one definition that holds the operation
-- itself, and carries the numbers that decided it; what makes it true is said apart, in account/specs/Truth.antt.
-- A definition that may meet events gives its result as `core` and the events, in order, as `log`. Contracts speak of
-- the core, an account of a run of the log.
use Rattle.std.specs.Prelude.{ℕ, List, [], ◌∷◌, ◌++◌, Float}

pub data Event : Type 0 where
  -- a pass through the matrices with the step h: E1 is singular at this column; E1 isn't and E2 is; neither is
  real-singular complex-singular : Float → ℕ → Event
  factored : Float → Event
  -- an attempt is one over the limit; its step h is too small at x; it is begun with h at x
  over-limit : Event
  too_small begun : Float → Float → Event
  -- the Newton rounds, so many, are used up; theta is not below 0.99; a slow iteration is predicted, by this dyth
  rounds-used : ℕ → Event
  diverged slow : Float → Event
  -- the first solve for the error
  error-solve : Event
  -- the error test failed with this err; it was met with this err, and h is the step that is held
  failed : Float → Event
  accepted : Float → Float → Event
  -- past a report at x, with the new step hnew: the next attempt is aimed at the end point; it isn't
  aimed not-aimed : Float → Float → Event

pub record Logged (A : Type 0) : Type 0 where
  pub core : A
  pub log : List Event

abbrev pub logged : {A : Type 0} → A → List Event → Logged A
logged a es = record { core = a; log = es }

-- nothing happens
abbrev pub quiet : {A : Type 0} → A → Logged A
quiet a = logged a []

-- an event, and then what follows
abbrev pub noted : {A : Type 0} → Event → Logged A → Logged A
noted e l = logged l.core (e ∷ l.log)

-- one block after another
abbrev pub and_then : {A B : Type 0} → Logged A → (A → Logged B) → Logged B
and_then l f = let m = f l.core in logged m.core (l.log ++ m.log)
