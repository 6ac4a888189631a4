-- What each loop of `read_words` keeps.
use Rattle.std.proofs.Common.{◌≡◌, ◌≤◌, ◌⊎◌, length, min}
use Rattle.replay.specs.Read.{Filled}
use Rattle.replay.proofs.word.read_words.Given as goal

abbrev pub invariant-loop-i : goal.invariant-loop-i
invariant-loop-i g l = (l.i-end ≡ min l.end (length l.initial.block))
    × (l.i-end ≤ length l.initial.block) × (l.from ≤ l.i)
    × ((l.i ≡ l.from) ⊎ (l.i ≤ l.i-end)) × Filled l.from l.i l.initial.block l.block
