-- `ask_stage` meets its contract: the sum, one more request counted, and the stage that waits for the reply.
use mathlib.Core.Path.{refl}
use lib.ListN.{length-set}
use Rattle.solve_blocks.specs.Attempt.{ask_stage_of}
use Rattle.radau_core.proofs.PlaceLaws.{words-at, resized}
use Rattle.radau_core.proofs.attempt.ask_stage.Goals as goal

pub at_stage-requires : goal.at_stage-requires
at_stage-requires c = resized c.requires.sized (simp length-set) refl

pub returns : goal.returns
unfolding ask_stage_of
returns c = record {
  sized_2 = c.at_stage.ensures.sized;
  cont_after = rw (
    c.at_stage.ensures.doubles_after,
    c.stage_sum.ensures,
    words-at c.requires.sized,
  );
}
