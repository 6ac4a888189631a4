-- `lu_decomp_complex` meets its contract.
use Prim.Native.Nat.{◌*◌}
use mathlib.Core.Path.{refl, sym, ◌∙◌}
use native.Mathlib.Omega.{arith}
use Rattle.words.proofs.Branch.{yes, no}
use Rattle.matrix.specs.LuComplex.{lu_decomp_complex_of}
use Rattle.matrix.proofs.Sizes.{order, three}
use Rattle.matrix.proofs.lu_complex.lu_decomp_complex.Goals as goal

pub returns-then-not-is_order : goal.returns-then-not-is_order
unfolding lu_decomp_complex_of
returns-then-not-is_order c = no _ _ _ (sym c.is_order.ensures ∙ c.if-not-is_order.true) refl

pub overflow_mul-fits : goal.overflow_mul-fits
overflow_mul-fits c = omega (arith, order c.args.n (sym c.is_order.ensures ∙ c.if-not-is_order.false))

pub overflow_mul-fits-2 : goal.overflow_mul-fits-2
overflow_mul-fits-2 c = omega (
  arith,
  order c.args.n
      (sym c.is_order.ensures ∙ c.if-not-is_order.false),
)

pub returns-then-not-fits : goal.returns-then-not-fits
unfolding lu_decomp_complex_of
returns-then-not-fits c = yes _ _ _ (sym c.is_order.ensures ∙ c.if-not-is_order.false)
    (no _ _ _ c.if-not-fits.true refl)

pub decompose-requires : goal.decompose-requires
decompose-requires c = let o = order c.args.n (sym c.is_order.ensures ∙ c.if-not-is_order.false) in
    let l = three c.args.n _ (c.args.n * c.args.n) _ _ c.if-not-fits.false in
    record {
      matrix = (record { small = o.high; full = l.0 }, omega (arith, l.1));
      le_n = (o.low, l.2);
    }

pub returns : goal.returns
unfolding lu_decomp_complex_of
returns c = yes _ _ _ (sym c.is_order.ensures ∙ c.if-not-is_order.false)
    (yes _ _ _ c.if-not-fits.false c.decompose.ensures)
