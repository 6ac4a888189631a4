-- `hnew` meets its contract.
use Rattle.words.proofs.Branch.{yes, no}
use Rattle.solve_blocks.specs.Report.{hnew_of}
use Rattle.radau_core.proofs.PlaceLaws.{flag-set, flag-clear}
use Rattle.radau_core.proofs.report.hnew.Goals as goal

pub returns-then-words-ne0 : goal.returns-then-words-ne0
unfolding hnew_of
returns-then-words-ne0 c = yes _ _ _ (flag-set c.if-words-ne0.true)
    (rw (
      c.min.ensures,
      c.abs-then-words-ne0-2.ensures,
      c.abs-then-words-ne0.ensures,
      c.clamp.ensures,
      c.abs.ensures,
    ))

pub returns : goal.returns
unfolding hnew_of
returns c = no _ _ _ (flag-clear c.if-words-ne0.false) (rw (c.clamp.ensures, c.abs.ensures))
