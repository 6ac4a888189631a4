-- `root` meets its contract: each early return is a case of the definition.
use Rattle.std.proofs.Common.{sym, ◌∙◌, arith}
use Rattle.scalar.proofs.Tests.{below-zero, equals-zero, equals-infinity, past-tests, nan_is}
use Rattle.scalar.proofs.RootLaws.{of-low-order, of-high-order, of_nan, of_negative, of_zero, of-infinity}
use Rattle.scalar.proofs.roots.root.Goals.{then-m-lt1-via-then-m-lt1, then-m-lt1-via-else-m-lt1+then-m-gt17}
use Rattle.scalar.proofs.roots.root.Goals.{then-is_nan-via-then-is_nan, then-is_nan-via-else-is_nan+then-v}
use Rattle.scalar.proofs.roots.root.Goals as goal

pub returns-then-m-lt1 : goal.returns-then-m-lt1
returns-then-m-lt1 c =
    elim c.then-m-lt1.branch [
      | then-m-lt1-via-then-m-lt1 w ↦ nan_is ∙ sym (of-low-order _ _ w.if-m-lt1.true)
      | then-m-lt1-via-else-m-lt1+then-m-gt17 w ↦ nan_is ∙ sym (of-high-order _ _ w.if-m-gt17.true)
    ]

pub returns-then-is_nan : goal.returns-then-is_nan
returns-then-is_nan c =
    elim c.then-is_nan.branch [
      | then-is_nan-via-then-is_nan w ↦
          nan_is ∙ sym (of_nan _ _ (omega arith) (omega arith) (sym c.is_nan.ensures.value ∙ w.if-is_nan.true))
      | then-is_nan-via-else-is_nan+then-v w ↦
          nan_is ∙ sym (of_negative _ _ (omega arith) (omega arith) (sym (below-zero _) ∙ w.if-v.true))
    ]

pub returns-then-v-2 : goal.returns-then-v-2
returns-then-v-2 c = sym (of_zero _ _ (omega arith) (omega arith) (sym (equals-zero _) ∙ c.if-v-2.true))

pub returns-then-v-3 : goal.returns-then-v-3
returns-then-v-3 c = of-infinity _ _ (omega arith) (omega arith) (sym (equals-infinity _) ∙ c.if-v-3.true)

pub invariant_of-root : goal.invariant_of-root
invariant_of-root c = record {
  has_root = record {
    low = omega arith;
    high = omega arith;
    above = past-tests _ (sym c.is_nan.ensures.value ∙ c.if-is_nan.false) (sym (below-zero _) ∙ c.if-v.false)
        (sym (equals-zero _) ∙ c.if-v-2.false) (sym (equals-infinity _) ∙ c.if-v-3.false);
  };
}
