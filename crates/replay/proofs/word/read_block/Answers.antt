-- `read_block` meets its contract.
use Rattle.replay.specs.Read.{wrong, begun}
use Rattle.replay.proofs.ReadLaws.{block_unread, read-value, after_first}
use Rattle.replay.proofs.word.read_block.Goals as goal

pub returns-then-block-eq0 : goal.returns-then-block-eq0
returns-then-block-eq0 g c = wrong

pub returns-in_err-block : goal.returns-in_err-block
returns-in_err-block g c = block_unread c.from_residual.ensures.0

pub returns : goal.returns
returns g c = begun _ _ _ (read-value after_first c.read_word.ensures c.in_ok-block.was) c.read_words.ensures
