-- What the loop of `sum_all` keeps.
use Rattle.std.proofs.Common.{◌≡◌, ℕ, ◌+◌, ◌<◌, get_or}
use Rattle.words.specs.Constants.{«0·0»}
use Rattle.words.specs.Words.{◌!◌}
use Rattle.words.specs.Loop.{loop}
use Rattle.model.specs.Plan.{term_at}
use Rattle.model.proofs.planned.sum_all.Given as goal

abbrev pub invariant-loop-s : goal.invariant-loop-s
invariant-loop-s l = (k : ℕ) → k < l.s
    → l.dy ! k ≡ loop (term_at l.plan.terms l.changes) (get_or l.plan.starts k 0) (get_or l.plan.starts (k + 1) 0) «0·0»
