-- `estimate` meets its contract: the way is that of solve_blocks/proofs/JudgeLaws.antt.
use mathlib.Core.Path.{ap, sym, subst}
use native.Mathlib.Omega.{arith}
use Rattle.state.specs.declared.run.Run.{Run}
use Rattle.solve_blocks.specs.Needs.{Fit}
use Rattle.solve_blocks.proofs.JudgeLaws.{estimate-by}
use Rattle.solve_blocks.proofs.FitLaws.{counted-fit}
use Rattle.radau_core.specs.Places.{run_at}
use Rattle.radau_core.proofs.judge.estimate.Goals as goal

pub solve_first-requires : goal.solve_first-requires
solve_first-requires c = omega (arith, c.requires.fit, c.requires.z1_len, c.error_sides.auto)

pub error-err-requires : goal.error-err-requires
error-err-requires c = (
  omega (arith, c.requires),
  omega (arith, c.requires),
  omega (arith, c.requires, c.error_sides.auto, c.solve_first.auto),
)

pub counted-requires : goal.counted-requires
counted-requires c = record {
  sized = c.requires.sized;
  doubles_bound = omega (arith, c.requires.fit.0);
}

pub tested-requires : goal.tested-requires
tested-requires c = let e = ap (λ (r : Run). r.shape.n) c.counted.ensures.doubles_after in record {
  sized = c.counted.ensures.sized_2;
  fit = subst (λ (r : Run). Fit 1 r.shape.n r) (sym c.counted.ensures.doubles_after) (counted-fit c.requires.fit.0);
  z1_len = (
    omega (arith, c.requires, e),
    omega (arith, c.requires, e),
    omega (arith, c.requires, e),
    omega (arith, c.requires, e),
    omega (arith, c.requires, e, c.error_sides.auto, c.solve_first.auto),
  );
}

pub returns-clause-f2_after : goal.returns-clause-f2_after
returns-clause-f2_after c = let a = c.args in
    estimate-by (run_at a.words.now a.doubles.now) a.work.now.e1.now a.work.now.ip1.now a.work.now.scal.now a.y.now
    a.work.now.cont.now a.work.now.z1.now a.work.now.z2.now a.work.now.z3.now a.work.now.f1.now a.work.now.f2.now
    a.work.now.f3.now a.mass.now a.f0.now
    _ _ _ _ _ _ _ _ _ c.defect.ensures (rw c.mass_mode-mode.ensures at c.error_sides.ensures)
    c.solve_first.ensures c.error-err.ensures c.counted.ensures.doubles_after
    c.tested.ensures.cont_after
