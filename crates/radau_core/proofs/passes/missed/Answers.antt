-- `missed` meets its contract.
use mathlib.Core.Path.{refl}
use lib.ListN.{length-set}
use Rattle.radau_core.proofs.PlaceLaws.{words-at, resized, flag-back}
use Rattle.radau_core.proofs.passes.missed.Goals as goal

pub returns : goal.returns
returns c = record {
  sized = resized c.requires (simp length-set) refl;
  doubles_after = rw (words-at c.requires, flag-back, c.wished-wish.ensures c.args.doubles.now);
}
