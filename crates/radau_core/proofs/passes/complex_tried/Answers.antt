-- `complex_tried` meets its contract: a failure, or E2 decomposed.
use Prim.Native.Nat.{◌≤◌}
use mathlib.Core.Path.{sym, subst}
use Rattle.state.specs.declared.run.Run.{Run}
use Rattle.state.specs.Memory.{factors}
use Rattle.solve_blocks.proofs.PassLaws.{complex-failed, complex-done}
use Rattle.radau_core.proofs.passes.complex_tried.Goals as goal

pub stopping-requires : goal.stopping-requires
stopping-requires c = record {
  sized = c.counted.ensures.sized_2;
  singular_count_bound = subst (λ (r : Run). r.control.singular_count ≤ 5) (sym c.counted.ensures.doubles_after)
      c.requires.fit.failures;
}

pub returns-then-is_err : goal.returns-then-is_err
returns-then-is_err c = record {
  sized_2 = c.stopping.ensures.sized_2;
  ip2_after = λ e1 ip1. complex-failed _ (factors e1 _ _ ip1 _) c.lu_decomp_complex-answer.result _
      c.counted.ensures.doubles_after
      c.is_err.result c.is_err.ensures _ _ c.lu_decomp_complex-answer.ensures c.if-is_err.true
      (rw c.column_of.ensures at c.stopping.ensures.doubles_after);
}

pub returns : goal.returns
returns c = record {
  sized_2 = c.counted.ensures.sized_2;
  ip2_after = λ e1 ip1. complex-done _ (factors e1 _ _ ip1 _) c.lu_decomp_complex-answer.result _
      c.counted.ensures.doubles_after
      c.is_err.result c.is_err.ensures _ _ c.lu_decomp_complex-answer.ensures c.if-is_err.false;
}
