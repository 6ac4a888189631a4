-- `arrived` meets its contract.
use mathlib.Core.Path.{refl}
use lib.ListN.{length-set}
use Rattle.solve_blocks.specs.Report.{arrived_of}
use Rattle.solve_blocks.proofs.LogLaws.{core-yes, core-no}
use Rattle.radau_core.proofs.PlaceLaws.{words-at, doubles-at, resized, flag-set, flag-clear}
use Rattle.radau_core.proofs.report.arrived.Goals as goal

pub ended-requires : goal.ended-requires
ended-requires c = resized c.requires refl (simp length-set)

pub renewed-requires : goal.renewed-requires
renewed-requires c = resized c.requires (simp length-set) (simp length-set)

pub returns-then-words-ne0 : goal.returns-then-words-ne0
unfolding arrived_of
returns-then-words-ne0 c = record {
  sized = c.ended.ensures.sized;
  doubles_after = core-yes _ _ (flag-set c.if-words-ne0.true)
      (rw (c.ended.ensures.doubles_after, doubles-at c.requires));
}

pub returns : goal.returns
unfolding arrived_of
returns c = record {
  sized = c.renewed.ensures.sized;
  doubles_after = core-no _ _ (flag-clear c.if-words-ne0.false)
      (rw (c.renewed.ensures.doubles_after, words-at c.requires, doubles-at c.requires, c.hnew-h.ensures));
}
