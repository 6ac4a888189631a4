-- `column` meets its contract, by the law of each way out.
use Prim.Native.Nat.{◌-◌}
use mathlib.Core.Path.{refl}
use native.Mathlib.Omega.{arith}
use lib.ListN.{length-set}
use Rattle.solve_blocks.proofs.JacobianLaws.{column-first, column-next, column-last}
use Rattle.radau_core.proofs.jacobian.column.Goals as goal

pub returns-then-c-eq0 : goal.returns-then-c-eq0
returns-then-c-eq0 c = record {
  sized_2 = c.ask_column.ensures.sized_2;
  jac_after = column-first _ _ _ _ _ _ c.if-c-eq0.true (c.ask_column.ensures.jac_after _);
}

pub ask_column-requires-then-c-n : goal.ask_column-requires-then-c-n
ask_column-requires-then-c-n c = record {
  sized = c.requires.sized;
  col_bound = simp length-set (omega arith);
}

pub shape_of-y_perturbed-then-c-n : goal.shape_of-y_perturbed-then-c-n
shape_of-y_perturbed-then-c-n c = simp length-set at c.ask_column-then-c-n.auto.y_perturbed

pub returns-then-c-n : goal.returns-then-c-n
returns-then-c-n c = record {
  sized_2 = c.ask_column-then-c-n.ensures.sized_2;
  jac_after = column-next _ _ _ _ _ _ (c.args.c - 1) (omega arith) c.perturbation.ensures
      c.fill_column.ensures
      c.if-c-n.true (c.ask_column-then-c-n.ensures.jac_after _);
}

pub returns : goal.returns
returns c = record {
  sized_2 = c.requires.sized;
  jac_after = column-last _ _ _ _ _ _ (c.args.c - 1) (omega arith) c.perturbation.ensures
      c.fill_column.ensures
      c.if-c-n.false refl;
}
