-- `elchepur_result` meets its contract: the result of the run is told.
use Rattle.export.proofs.RunLaws.{result-left}
use Rattle.export.proofs.run.elchepur_result.Goals as goal

pub returns : goal.returns
returns c = let a = c.args in
    result-left a.words.now a.doubles.now a.numbers.now a.floats.now
    c.run_at-run.ensures
    c.result.ensures c.tell_result.ensures
