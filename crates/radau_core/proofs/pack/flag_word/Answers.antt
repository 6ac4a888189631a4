-- `flag_word` meets its contract.
use Rattle.radau_core.proofs.pack.flag_word.Goals as goal

pub returns-then-flag : goal.returns-then-flag
returns-then-flag c = rw c.if-flag.true

pub returns : goal.returns
returns c = rw c.if-flag.false
