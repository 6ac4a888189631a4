-- What is promised of a run in two arrays: what a user cites, the theorem in words, its statement, and where it is
-- proved.
use mathlib.Core.Path.{◌≡◌}
use Rattle.state.specs.declared.run.Run.{Run}
use Rattle.radau_core.specs.Places.{run_at, words_of, doubles_of}
use Rattle.radau_core.proofs.PackLaws.{run-held}

-- A run that is put into its places is the run that they hold.
pub places-hold : (r : Run) → run_at (words_of r) (doubles_of r) ≡ r
places-hold = run-held
