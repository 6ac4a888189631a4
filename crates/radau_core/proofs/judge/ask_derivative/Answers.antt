-- `ask_derivative` meets its contract.
use mathlib.Core.Path.{refl}
use lib.ListN.{length-set}
use Rattle.radau_core.proofs.PlaceLaws.{words-at, resized}
use Rattle.radau_core.proofs.judge.ask_derivative.Goals as goal

pub at_stage-requires : goal.at_stage-requires
at_stage-requires c = resized c.requires.sized (simp length-set) refl

pub returns : goal.returns
returns c = record {
  sized_2 = c.at_stage.ensures.sized;
  doubles_after = rw (c.at_stage.ensures.doubles_after, words-at c.requires.sized);
}
