-- What is promised of a state that C holds, and of settings in two arrays: what a user cites, each theorem in words,
-- its statement, and where it is proved.
use mathlib.Core.Path.{◌≡◌}
use Rattle.state.specs.declared.settings.Settings.{Settings}
use Rattle.state.specs.declared.run.Run.{Run}
use Rattle.state.specs.declared.talk.Place.{Place}
use Rattle.state.specs.declared.talk.Reply.{Reply}
use Rattle.state.specs.declared.talk.Request.{Request}
use Rattle.state.specs.Memory.{Memory}
use Rattle.solve_blocks.specs.Advance.{advance_of}
use Rattle.solve_blocks.proofs.EveryRule.{Kept}
use Rattle.radau_core.specs.Places.{run_at, words_of, doubles_of}
use Rattle.radau_core.proofs.Theorems.{places-hold}
use Rattle.export.specs.Talk.{settings_given}
use Rattle.export.specs.Defaults.{numbers_of, floats_of}
use Rattle.export.proofs.AdvanceKept.{advance-kept-proof}
use Rattle.export.proofs.SettingsLaws.{settings-read-proof}
use Rattle.std.specs.Prelude.{Ok}
use Rattle.state.specs.Talk.{call}

-- What a call leaves of a run, the next one reads.
pub state-read : (r : Run) → run_at (words_of r) (doubles_of r) ≡ r
state-read = places-hold

-- An advance keeps the settings, the shape and what the opening fixed.
pub advance-kept : (r : Run) (p : Reply) (m : Memory) (q : Run) (x : Request) (at : Place)
    → (advance_of r p m).core.answer ≡ Ok (call q x at) → Kept r q
advance-kept = advance-kept-proof

-- Settings that are written into the two arrays are read back as they were.
pub settings-read : (s : Settings) → settings_given (numbers_of s) (floats_of s) ≡ s
settings-read = settings-read-proof
