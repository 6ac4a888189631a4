-- `real_tried` meets its contract: a failure, or E1 decomposed and then E2.
use Prim.Native.Nat.{◌≤◌}
use mathlib.Core.Path.{sym, subst}
use Rattle.state.specs.declared.run.Run.{Run}
use Rattle.state.specs.Memory.{factors}
use Rattle.solve_blocks.specs.Needs.{Fit}
use Rattle.solve_blocks.proofs.PassLaws.{real-failed, real-done}
use Rattle.solve_blocks.proofs.FitLaws.{counted-fit}
use Rattle.radau_core.proofs.passes.real_tried.Goals as goal

pub stopping-requires : goal.stopping-requires
stopping-requires c = record {
  sized = c.counted.ensures.sized_2;
  singular_count_bound = subst (λ (r : Run). r.control.singular_count ≤ 5) (sym c.counted.ensures.doubles_after)
      c.requires.fit.failures;
}

pub complex_tried-requires : goal.complex_tried-requires
complex_tried-requires c = record {
  sized = c.counted.ensures.sized_2;
  fit = subst (λ (r : Run). Fit 1 r.shape.n r) (sym c.counted.ensures.doubles_after) (counted-fit c.requires.fit);
}

pub returns-then-is_err : goal.returns-then-is_err
returns-then-is_err c = record {
  sized_2 = c.stopping.ensures.sized_2;
  ip2_after = real-failed _ (factors _ _ _ _ _) c.lu_decomp-answer.result _ c.counted.ensures.doubles_after
      c.is_err.result c.is_err.ensures _ c.lu_decomp-answer.ensures c.if-is_err.true
      (rw c.column_of.ensures at c.stopping.ensures.doubles_after);
}

pub returns : goal.returns
returns c = record {
  sized_2 = c.complex_tried.ensures.sized_2;
  ip2_after = real-done _ (factors _ _ _ _ _) c.lu_decomp-answer.result _ c.counted.ensures.doubles_after
      c.is_err.result
      c.is_err.ensures _ c.lu_decomp-answer.ensures c.if-is_err.false (c.complex_tried.ensures.ip2_after _ _);
}
