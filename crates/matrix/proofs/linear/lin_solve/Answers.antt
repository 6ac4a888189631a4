-- `lin_solve` meets its contract.
use mathlib.Core.Path.{refl, sym, ap, ◌∙◌}
use native.Mathlib.Omega.{arith}
use Rattle.std.proofs.Common.{Ok}
use Rattle.words.proofs.Branch.{yes, no}
use Rattle.state.proofs.Pivots.{all-rows}
use Rattle.matrix.specs.Answers.{solution}
use Rattle.matrix.specs.Linear.{lin_solve_of}
use Rattle.matrix.proofs.Sizes.{order, three}
use Rattle.matrix.proofs.Sides.{real-lawful, real-once}
use Rattle.matrix.proofs.Backward.{solved-by}
use Rattle.matrix.proofs.linear.lin_solve.Goals as goal

pub returns-then-not-is_order : goal.returns-then-not-is_order
unfolding lin_solve_of
returns-then-not-is_order c = no _ _ _ (sym c.is_order.ensures ∙ c.if-not-is_order.true) refl

pub overflow_mul-fits : goal.overflow_mul-fits
overflow_mul-fits c = omega (arith, order c.args.n (sym c.is_order.ensures ∙ c.if-not-is_order.false))

pub returns-then-not-fits : goal.returns-then-not-fits
unfolding lin_solve_of
returns-then-not-fits c = yes _ _ _ (sym c.is_order.ensures ∙ c.if-not-is_order.false)
    (no _ _ _ c.if-not-fits.true refl)

pub returns-then-stray_pivot : goal.returns-then-stray_pivot
unfolding lin_solve_of
returns-then-stray_pivot c = yes _ _ _ (sym c.is_order.ensures ∙ c.if-not-is_order.false)
    (yes _ _ _ c.if-not-fits.false (yes _ _ _ (sym c.stray_pivot.ensures ∙ c.if-stray_pivot.true) refl))

pub solve-requires : goal.solve-requires
solve-requires c = let o = order c.args.n (sym c.is_order.ensures ∙ c.if-not-is_order.false) in
    let l = three c.args.n _ c.args.n _ _ c.if-not-fits.false in record {
      matrix = (record { small = o.high; full = l.0 }, omega arith);
      vector = (l.1, omega arith);
      ip_len = (l.2, o.low);
      by_index = all-rows c.args.n _ (sym c.stray_pivot.ensures ∙ c.if-stray_pivot.false);
    }

pub returns : goal.returns
unfolding lin_solve_of
returns c = let l = three c.args.n _ c.args.n _ _ c.if-not-fits.false in
    yes _ _ _ (sym c.is_order.ensures ∙ c.if-not-is_order.false)
    (yes _ _ _ c.if-not-fits.false (no _ _ _
    (sym c.stray_pivot.ensures ∙ c.if-stray_pivot.false)
    (ap (solution (Ok tt)) (c.solve.ensures
    ∙ solved-by _ _ _ real-lawful _ _ real-once _ _
    (order c.args.n (sym c.is_order.ensures ∙ c.if-not-is_order.false)).low l.1))))
