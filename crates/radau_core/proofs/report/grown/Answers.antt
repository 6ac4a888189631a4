-- `grown` meets its contract.
use lib.ListN.{length-set}
use Rattle.words.proofs.Branch.{yes, no}
use Rattle.solve_blocks.specs.Report.{grown_of}
use Rattle.radau_core.proofs.PlaceLaws.{words-at, doubles-at, resized}
use Rattle.radau_core.proofs.report.grown.Goals as goal

pub returns-then-theta-qt : goal.returns-then-theta-qt
unfolding grown_of
returns-then-theta-qt c = record {
  sized = resized c.requires (simp length-set) (simp length-set);
  doubles_after = yes _ _ _ c.if-theta-qt.true (rw (words-at c.requires, doubles-at c.requires));
}

pub returns : goal.returns
unfolding grown_of
returns c = record {
  sized = c.fresh.ensures.sized;
  doubles_after = no _ _ _ c.if-theta-qt.false c.fresh.ensures.doubles_after;
}
