-- `run` meets its contract: the answer to the opening settles which side is taken, and a task has
-- room for at most 32 amounts.
use mathlib.Core.Path.{◌∙◌}
use borrow.Author.Rules.{rules}
use Rattle.model_run.proofs.Room.{square-fits}
use Rattle.model_run.proofs.NoneRefused.{none-refused-proof}
use Rattle.model_run.proofs.TaskLaws.{run-refused, run_ran}
use Rattle.model_run.proofs.run.run.Goals as goal

pub overflow_mul-n-2 : goal.overflow_mul-n-2
overflow_mul-n-2 c = square-fits c.room-n.result c.room-n.ensures.0

pub overflow_mul-n-in-Ok-2 : goal.overflow_mul-n-in-Ok-2
overflow_mul-n-in-Ok-2 c = square-fits c.room-n.result c.room-n.ensures.0

pub ran-requires : goal.ran-requires
ran-requires c = let a = c.args in record {
  n_bound = search rules;
  none_refused = none-refused-proof a.task a.rates.now a.species.now _ _ _ c.opened.ensures
      c.in-Ok.is;
}

pub returns-in-Err : goal.returns-in-Err
returns-in-Err c = let a = c.args in
    run-refused a.task a.rates.now a.species.now _ c.opened.ensures c.in-Err.is

pub returns-in-Ok : goal.returns-in-Ok
returns-in-Ok c = let a = c.args in
    c.ran.ensures
    ∙ run_ran a.task a.rates.now a.species.now _ _ _ c.opened.ensures c.in-Ok.is
