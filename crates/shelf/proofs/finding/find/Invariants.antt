-- What the loop of `find` keeps.
use Rattle.std.proofs.Common.{◌≡◌, ◌-◌, ◌≤◌}
use Rattle.shelf.specs.Finding.{found_from}
use Rattle.shelf.proofs.finding.find.Given as goal

abbrev pub invariant-loop : goal.invariant-loop
invariant-loop l =
    (l.at ≤ 47) × (found_from l.x l.ends l.at (l.steps - l.counter) ≡ found_from l.x l.ends l.place l.steps)
