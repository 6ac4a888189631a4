-- `join` meets its contract where the totals are joined.
use Rattle.std.proofs.Common.{sym, ◌∙◌}
use Rattle.night_join.proofs.JoinLaws.{left-joined}
use Rattle.night_join.proofs.joining.join.Goals as goal

pub returns : goal.returns
returns c = left-joined _ _
    (sym c.fit.ensures ∙ c.if-not-fit.false)
    (sym c.fit-else-not-fit.ensures ∙ c.if-not-fit-2.false)
    (sym c.beyond.ensures ∙ c.if-beyond.false)
    c.sum.ensures
