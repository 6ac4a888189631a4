-- `react` meets its contract.
use Rattle.model.specs.Model.{speed_of, reacted}
use Rattle.model.proofs.ReactionLaws.{raised-minus}
use Rattle.model.proofs.reactions.react.Goals as goal

pub returns : goal.returns
unfolding reacted speed_of
returns c =
    rw (
      c.raise-4.ensures,
      c.raise-3.ensures,
      c.raise-2.ensures,
      c.raise.ensures,
      c.times_amount-v.ensures,
      c.times_amount.ensures,
      raised-minus,
      raised-minus,
    )
