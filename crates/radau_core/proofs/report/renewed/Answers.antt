-- `renewed` meets its contract.
use mathlib.Core.Path.{refl}
use lib.ListN.{length-set}
use Rattle.solve_blocks.specs.Report.{renewed_of}
use Rattle.solve_blocks.proofs.LogLaws.{core-yes, core-no}
use Rattle.radau_core.proofs.PlaceLaws.{words-at, resized}
use Rattle.radau_core.proofs.report.renewed.Goals as goal

pub fresh-requires : goal.fresh-requires
fresh-requires c = resized c.requires (simp length-set) refl

pub returns-then-x-hnew : goal.returns-then-x-hnew
unfolding renewed_of
returns-then-x-hnew c = record {
  sized = c.fresh.ensures.sized;
  doubles_after = core-yes _ _ c.if-x-hnew.true (rw (c.fresh.ensures.doubles_after, words-at c.requires));
}

pub returns : goal.returns
unfolding renewed_of
returns c = record {
  sized = c.grown.ensures.sized;
  doubles_after = core-no _ _ c.if-x-hnew.false (rw c.grown.ensures.doubles_after);
}
