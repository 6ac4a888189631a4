-- `returned` meets its contract.
use Rattle.solve_blocks.specs.Advance.{returned_of}
use Rattle.radau_core.proofs.advance.returned.Goals as goal

pub returns-in-Asked : goal.returns-in-Asked
unfolding returned_of
returns-in-Asked c = record {
  sized = c.requires;
  doubles_after = rw c.in-Asked.is;
}

pub returns-in-Reported : goal.returns-in-Reported
unfolding returned_of
returns-in-Reported c = record {
  sized = c.arrived.ensures.sized;
  doubles_after = rw c.in-Reported.is c.arrived.ensures.doubles_after;
}
