-- What each loop of `fed` keeps.
use Rattle.std.proofs.Common.{◌≡◌, ◌≤◌, length, drop}
use Rattle.night_chain.specs.Chain.{fed_of}
use Rattle.night_chain.proofs.chain.fed.Given as goal

abbrev pub invariant-loop-byte : goal.invariant-loop-byte
invariant-loop-byte l = (l.byte-index ≤ length l.piece) × (fed_of l.next (drop l.byte-index l.piece)
    ≡ fed_of l.initial.next l.piece)
