-- What the loop of `read_all` keeps.
use Rattle.std.proofs.Common.{◌≤◌}
use Rattle.sheet_input.specs.Input.{room}
use Rattle.sheet_input.proofs.reading.read_all.Given as goal

abbrev pub invariant-loop : goal.invariant-loop
invariant-loop g l = l.done ≤ room
