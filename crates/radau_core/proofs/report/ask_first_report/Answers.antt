-- `ask_first_report` meets its contract.
use Rattle.radau_core.proofs.report.ask_first_report.Goals as goal

pub returns : goal.returns
returns c = record {
  sized = c.at_stage.ensures.sized;
  doubles_after = rw c.at_stage.ensures.doubles_after;
}
