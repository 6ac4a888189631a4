-- `refined` meets its contract: the way is that of solve_blocks/proofs/JudgeLaws.antt.
use mathlib.Core.Path.{◌∙◌}
use Rattle.solve_blocks.proofs.JudgeLaws.{refined-by}
use Rattle.radau_core.specs.Places.{run_at}
use Rattle.radau_core.proofs.judge.refined.Goals as goal

pub returns-clause-cont_after : goal.returns-clause-cont_after
returns-clause-cont_after c = let a = c.args in
    c.judge.ensures.cont_after
    ∙ refined-by (run_at a.words.now a.doubles.now) a.work.now.e1.now a.work.now.ip1.now a.work.now.scal.now a.y.now
    a.work.now.cont.now a.work.now.z1.now a.work.now.z2.now a.work.now.z3.now a.work.now.f1.now a.work.now.f2.now
    a.work.now.f3.now _ _ _
    c.sum.ensures c.solve_first.ensures c.error-err.ensures
