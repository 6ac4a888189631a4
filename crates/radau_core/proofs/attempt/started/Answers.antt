-- `started` meets its contract.
use lib.ListN.{length-set}
use Rattle.radau_core.proofs.PlaceLaws.{words-at, doubles-at, resized}
use Rattle.radau_core.proofs.attempt.started.Goals as goal

pub returns : goal.returns
returns c = record {
  sized = resized c.requires (simp length-set) (simp length-set);
  doubles_after = rw (
    c.abs.ensures,
    c.four_fifths.ensures,
    c.max.ensures,
    words-at c.requires,
    doubles-at c.requires,
  );
}
