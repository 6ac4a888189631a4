-- `sum_all` meets its contract. After s turns the first s species have their sums.
use Rattle.std.proofs.Common.{ℕ, ◌+◌, get_or, ◌∙◌, arith}
use Rattle.words.specs.Constants.{«0·0»}
use Rattle.words.specs.Loop.{loop}
use Rattle.model.specs.Plan.{term_at}
use Rattle.model.proofs.PlanLaws.{part-sum, sums-more}
use Rattle.model.proofs.planned.sum_all.Goals as goal

pub loop-s-preserved : goal.loop-s-preserved
loop-s-preserved c = let a = c.args in
    let p = a.plan.now in
    let s = c.loop-s.s in
    let known = c.requires.by_index s (omega arith) in
    sums-more
    (λ (k : ℕ). loop (term_at p.terms a.changes.now) (get_or p.starts k 0) (get_or p.starts (k + 1) 0) «0·0»)
    s c.loop-s.dy c.sum_of.result (omega arith)
    (c.sum_of.ensures
    ∙ part-sum p.terms a.changes.now (get_or p.starts s 0) (get_or p.starts (s + 1) 0) «0·0» known.0 (omega arith))
    c.loop-s.invariant
