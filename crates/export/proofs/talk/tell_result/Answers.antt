-- `tell_result` meets its contract.
use Rattle.export.specs.Talk.{ended, end_floats, of_result}
use Rattle.export.proofs.talk.tell_result.Goals as goal

pub returns-in-None : goal.returns-in-None
unfolding of_result
returns-in-None c = rw c.in-None.is

pub returns-in-Some : goal.returns-in-Some
unfolding of_result
returns-in-Some c = rw c.in-Some.is (λ i. ended 0 (c.end_numbers-words.ensures i) (end_floats c.in-Some.end))
