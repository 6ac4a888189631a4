-- `ask_first` meets its contract.
use Rattle.radau_core.proofs.attempt.ask_first.Goals as goal

pub ask_stage-requires : goal.ask_stage-requires
ask_stage-requires c = record {
  sized = c.requires.sized;
  fit = c.requires.fit;
  y_len = c.requires.y_len;
}

pub returns : goal.returns
returns c = record {
  sized_2 = c.ask_stage.ensures.sized_2;
  cont_after = c.ask_stage.ensures.cont_after;
}
