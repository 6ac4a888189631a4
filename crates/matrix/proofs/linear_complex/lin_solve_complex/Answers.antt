-- `lin_solve_complex` meets its contract.
use mathlib.Core.Path.{refl, sym, ap, ◌∙◌}
use native.Mathlib.Omega.{arith}
use Rattle.std.proofs.Common.{Ok}
use Rattle.words.proofs.Branch.{yes, no}
use Rattle.state.proofs.Pivots.{all-rows}
use Rattle.matrix.specs.Answers.{solution}
use Rattle.matrix.specs.LinearComplex.{lin_solve_complex_of}
use Rattle.matrix.proofs.Sizes.{order, five}
use Rattle.matrix.proofs.Sides.{complex-lawful, complex-once}
use Rattle.matrix.proofs.Backward.{solved-by}
use Rattle.matrix.proofs.linear_complex.lin_solve_complex.Goals as goal

pub returns-then-not-is_order : goal.returns-then-not-is_order
unfolding lin_solve_complex_of
returns-then-not-is_order c = no _ _ _ (sym c.is_order.ensures ∙ c.if-not-is_order.true) refl

pub overflow_mul-fits : goal.overflow_mul-fits
overflow_mul-fits c = omega (arith, order c.args.n (sym c.is_order.ensures ∙ c.if-not-is_order.false))

pub overflow_mul-fits-2 : goal.overflow_mul-fits-2
overflow_mul-fits-2 c = omega (
  arith,
  order c.args.n
      (sym c.is_order.ensures ∙ c.if-not-is_order.false),
)

pub returns-then-not-fits : goal.returns-then-not-fits
unfolding lin_solve_complex_of
returns-then-not-fits c = yes _ _ _ (sym c.is_order.ensures ∙ c.if-not-is_order.false)
    (no _ _ _ c.if-not-fits.true refl)

pub returns-then-stray_pivot : goal.returns-then-stray_pivot
unfolding lin_solve_complex_of
returns-then-stray_pivot c = yes _ _ _ (sym c.is_order.ensures ∙ c.if-not-is_order.false)
    (yes _ _ _ c.if-not-fits.false (yes _ _ _ (sym c.stray_pivot.ensures ∙ c.if-stray_pivot.true) refl))

pub solve-requires : goal.solve-requires
solve-requires c = let o = order c.args.n (sym c.is_order.ensures ∙ c.if-not-is_order.false) in
    let l = five c.args.n _ _ _ _ _ c.if-not-fits.false in record {
      matrix = (record { small = o.high; full = l.0 }, omega (arith, l.1));
      vector = (l.2, omega (arith, l.3));
      ip_len = (l.4, o.low);
      by_index = all-rows c.args.n _ (sym c.stray_pivot.ensures ∙ c.if-stray_pivot.false);
    }

pub returns : goal.returns
unfolding lin_solve_complex_of
returns c = let l = five c.args.n _ _ _ _ _ c.if-not-fits.false in
    yes _ _ _ (sym c.is_order.ensures ∙ c.if-not-is_order.false)
    (yes _ _ _ c.if-not-fits.false (no _ _ _
    (sym c.stray_pivot.ensures ∙ c.if-stray_pivot.false)
    (ap (solution (Ok tt)) (c.solve.ensures
    ∙ solved-by _ _ _ complex-lawful _ _ complex-once _ _
    (order c.args.n (sym c.is_order.ensures ∙ c.if-not-is_order.false)).low (l.2, l.3)))))
