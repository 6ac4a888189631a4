-- `began` meets its contract: its four calls are the definition's, by solve_blocks/proofs/AttemptLaws.antt.
use mathlib.Core.Path.{ap, sym, subst}
use native.Mathlib.Omega.{arith}
use Rattle.state.specs.declared.run.Run.{Run}
use Rattle.state.specs.Lent.{newton_in}
use Rattle.solve_blocks.specs.Needs.{Fit}
use Rattle.solve_blocks.proofs.AttemptLaws.{started-fit, began-by}
use Rattle.radau_core.specs.Places.{run_at}
use Rattle.radau_core.proofs.attempt.began.Goals as goal

pub weighted-requires : goal.weighted-requires
weighted-requires c = rw c.shape_at-shape.ensures (omega (arith, c.requires.fit, c.requires.y_len))

pub started-requires : goal.started-requires
started-requires c = c.requires.sized

pub ask_first-requires : goal.ask_first-requires
ask_first-requires c = let e = ap (λ (r : Run). r.shape.n) c.started.ensures.doubles_after in record {
  sized = c.started.ensures.sized;
  fit = subst (λ (r : Run). Fit 1 r.shape.n r) (sym c.started.ensures.doubles_after) (started-fit c.requires.fit);
  y_len = omega (arith, c.requires.y_len, e, c.guess.auto);
}

pub returns-clause-f3_after : goal.returns-clause-f3_after
returns-clause-f3_after c = let a = c.args in
    began-by (run_at a.words.now a.doubles.now) a.y.now a.work.now.scal.now a.work.now.cont.now (newton_in a.work.now)
    _ (rw c.shape_at-shape.ensures at c.weighted.ensures) _ c.guess.ensures _
    c.started.ensures.doubles_after _ _
    c.ask_first.ensures.cont_after
