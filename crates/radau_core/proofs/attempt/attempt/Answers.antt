-- `attempt` meets its contract: the ways out are those of solve_blocks/proofs/AttemptLaws.antt.
use mathlib.Core.Path.{refl}
use lib.ListN.{length-set}
use Rattle.state.specs.Lent.{newton_in}
use Rattle.solve_blocks.proofs.AttemptLaws.{counted-fit, attempt-over, attempt-small, attempt-begun}
use Rattle.radau_core.specs.Places.{run_at}
use Rattle.radau_core.proofs.PlaceLaws.{words-at, resized}
use Rattle.radau_core.proofs.attempt.attempt.Goals as goal

pub ended-requires : goal.ended-requires
ended-requires c = resized c.requires.sized (simp length-set) refl

pub ended-requires-then-abs-doubles : goal.ended-requires-then-abs-doubles
ended-requires-then-abs-doubles c = resized c.requires.sized (simp length-set) refl

pub began-requires : goal.began-requires
began-requires c = record {
  sized = resized c.requires.sized (simp length-set) refl;
  fit = rw (words-at c.requires.sized) (counted-fit c.requires.fit);
  y_len = rw (words-at c.requires.sized) c.requires.y_len;
}

pub returns-then-most-total-clause-f3_after : goal.returns-then-most-total-clause-f3_after
returns-then-most-total-clause-f3_after c = let a = c.args in
    attempt-over (run_at a.words.now a.doubles.now) a.y.now a.work.now.scal.now a.work.now.cont.now
    (newton_in a.work.now)
    c.if-most-total.true _ (rw (words-at c.requires.sized) at c.ended.ensures.doubles_after)

pub returns-then-abs-doubles-clause-f3_after : goal.returns-then-abs-doubles-clause-f3_after
returns-then-abs-doubles-clause-f3_after c = let a = c.args in
    attempt-small (run_at a.words.now a.doubles.now) a.y.now a.work.now.scal.now a.work.now.cont.now
    (newton_in a.work.now)
    c.if-most-total.false _ _ c.abs.ensures c.abs-2.ensures c.if-abs-doubles.true _
    (rw (words-at c.requires.sized) at c.ended-then-abs-doubles.ensures.doubles_after)

pub returns-clause-f3_after : goal.returns-clause-f3_after
returns-clause-f3_after c = let a = c.args in
    attempt-begun (run_at a.words.now a.doubles.now) a.y.now a.work.now.scal.now a.work.now.cont.now
    (newton_in a.work.now)
    c.if-most-total.false _ _ c.abs.ensures c.abs-2.ensures c.if-abs-doubles.false _
    (rw (words-at c.requires.sized) at c.began.ensures.f3_after)
