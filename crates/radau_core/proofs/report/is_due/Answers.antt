-- `is_due` meets its contract.
use Rattle.words.specs.Loop.{pick}
use borrow.Author.Tests.{eq-eqb, ne_eqb}
use Rattle.solve_blocks.specs.Report.{is_due}
use Rattle.radau_core.specs.Choices.{option_at}
use Rattle.radau_core.proofs.report.is_due.Goals as goal

pub returns-then-words-eq0 : goal.returns-then-words-eq0
unfolding is_due option_at pick
returns-then-words-eq0 c = rw (eq-eqb _ 0 c.if-words-eq0.true)

pub returns : goal.returns
unfolding is_due option_at pick
returns c = rw (ne_eqb _ 0 c.if-words-eq0.false)
