-- `at-stage` meets its contract.
use mathlib.Core.Path.{refl}
use lib.ListN.{length-set}
use Rattle.radau_core.proofs.PlaceLaws.{words-at, resized, stage-back}
use Rattle.radau_core.proofs.stage.at_stage.Goals as goal

pub returns : goal.returns
returns c = record {
  sized = resized c.requires (simp length-set) refl;
  doubles_after = rw (words-at c.requires, c.stage_tag.ensures, c.stage_part.ensures, stage-back);
}
