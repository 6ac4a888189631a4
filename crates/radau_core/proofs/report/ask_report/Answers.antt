-- `ask_report` meets its contract.
use Rattle.solve_blocks.specs.Report.{ask_report}
use Rattle.radau_core.proofs.report.ask_report.Goals as goal

pub returns : goal.returns
unfolding ask_report
returns c = record {
  sized = c.at_stage.ensures.sized;
  doubles_after = rw (c.at_stage.ensures.doubles_after, c.is_due.ensures);
}
