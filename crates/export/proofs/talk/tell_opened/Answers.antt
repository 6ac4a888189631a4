-- `tell_opened` meets its contract.
use Rattle.export.specs.Talk.{crossed, of_opened}
use Rattle.export.proofs.talk.tell_opened.Goals as goal

pub returns-in-Err : goal.returns-in-Err
unfolding of_opened
returns-in-Err c = let a = c.args in
    rw c.in-Err.is
    (λ i. crossed (c.refusal_number.ensures i) a.words.now a.doubles.now a.told.now a.at.now)

pub returns-in-Ok : goal.returns-in-Ok
unfolding of_opened
returns-in-Ok c = rw c.in-Ok.is
    (λ i.
    crossed 0 (c.words_of.ensures i) (c.doubles_of.ensures i)
    (c.tell.ensures
    i) (c.tell_points.ensures i))
