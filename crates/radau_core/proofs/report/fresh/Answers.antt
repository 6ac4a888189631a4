-- `fresh` meets its contract.
use lib.ListN.{length-set}
use Rattle.radau_core.proofs.PlaceLaws.{words-at, doubles-at, resized, flag-back}
use Rattle.radau_core.proofs.report.fresh.Goals as goal

pub returns : goal.returns
returns c = record {
  sized = resized c.requires (simp length-set) (simp length-set);
  doubles_after = rw (words-at c.requires, doubles-at c.requires, flag-back);
}
