-- The step that a run holds, by its two arrays.
use Rattle.std.specs.Prelude.{ℕ, List, Float}
use Rattle.radau_core.specs.Places.{run_at}

abbrev pub held_step : List ℕ → List Float → Float
held_step words doubles = (run_at words doubles).numbers.h
