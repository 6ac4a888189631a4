-- `ask_column` meets its contract.
use Rattle.solve_blocks.specs.Jacobian.{ask_column_of}
use Rattle.radau_core.proofs.jacobian.ask_column.Goals as goal

pub at_stage-requires : goal.at_stage-requires
at_stage-requires c = c.requires.sized

pub returns : goal.returns
unfolding ask_column_of
returns c = record {
  sized_2 = c.at_stage.ensures.sized;
  jac_after = λ jac. rw (c.at_stage.ensures.doubles_after, c.perturbation.ensures);
}
