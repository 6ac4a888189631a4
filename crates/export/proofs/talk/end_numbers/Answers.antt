-- `end_numbers` meets its contract: status and blame by their numbers, the counts as they are.
use mathlib.Core.List.{[], ◌∷◌}
use Rattle.export.proofs.talk.end_numbers.Goals as goal

pub returns : goal.returns
returns c = λ i. c.status_number.ensures i
    ∷ c.args.res.counts.ode
    ∷ c.args.res.counts.jac
    ∷ c.args.res.counts.lu
    ∷ c.args.res.counts.total
    ∷ c.args.res.counts.accepted
    ∷ c.args.res.counts.rejected
    ∷ c.blame_kind.ensures i
    ∷ c.blame_column.ensures i
    ∷ []
