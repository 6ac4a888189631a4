-- `counted` meets its contract.
use mathlib.Core.Path.{refl}
use lib.ListN.{length-set}
use Rattle.radau_core.proofs.PlaceLaws.{words-at, resized}
use Rattle.radau_core.proofs.passes.counted.Goals as goal

pub returns : goal.returns
returns c = record {
  sized_2 = resized c.requires.sized (simp length-set) refl;
  doubles_after = rw (words-at c.requires.sized);
}
