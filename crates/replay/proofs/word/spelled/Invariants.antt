-- What the loop of `spelled` keeps: what the bytes still spell.
use Rattle.std.proofs.Common.{◌≡◌, drop}
use Rattle.replay.specs.Word.{spelled_behind, spelled_of}
use Rattle.replay.proofs.word.spelled.Given as goal

abbrev pub invariant-loop-byte : goal.invariant-loop-byte
invariant-loop-byte l = spelled_behind l.value (drop l.byte-index l.byte-items) ≡ spelled_of l.text l.from l.end
