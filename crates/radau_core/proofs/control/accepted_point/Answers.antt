-- `accepted_point` meets its contract.
use mathlib.Core.Path.{ap, ◌∙◌}
use lib.ListN.{length-set}
use Rattle.solve_blocks.specs.Judge.{strode}
use Rattle.radau_core.proofs.PlaceLaws.{words-at, doubles-at, resized}
use Rattle.radau_core.proofs.control.accepted_point.Goals as goal

pub strode-requires : goal.strode-requires
strode-requires c = resized c.requires.sized (simp length-set) (simp length-set)

pub returns : goal.returns
returns c = record {
  sized_2 = c.strode.ensures.sized;
  doubles_after = c.strode.ensures.doubles_after ∙ ap strode
      (rw (words-at c.requires.sized, doubles-at c.requires.sized));
}
