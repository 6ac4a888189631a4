-- What the loop of `list_species` keeps.
use Rattle.model.specs.Plan.{Lists}
use Rattle.model.proofs.planned.list_species.Given as goal

abbrev pub invariant-loop-k : goal.invariant-loop-k
invariant-loop-k l = Lists l.places l.number l.at l.initial.terms l.k l.terms l.to
