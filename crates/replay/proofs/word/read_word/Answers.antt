-- `read_word` meets its contract: the 17 bytes are those that were read into the text.
use Rattle.std.proofs.Common.{rules}
use Rattle.replay.specs.Read.{none}
use Rattle.replay.proofs.ReadLaws.{taken-right, taken-wrong}
use Rattle.replay.proofs.word.read_word.Goals as goal

pub returns-then-read_full-eq0 : goal.returns-then-read_full-eq0
returns-then-read_full-eq0 g c = none

pub returns-then-text-after : goal.returns-then-text-after
returns-then-text-after g c = taken-wrong c.read_full.new.block (search rules) c.if-text-after.true

pub returns : goal.returns
returns g c = let text = c.read_full.new.block in
    rw (c.ok_or.ensures.value, c.spelled.ensures) (taken-right text (search rules) c.if-text-after.false)
