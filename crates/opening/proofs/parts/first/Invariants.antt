-- What the loop of `first` keeps: no entry before has the property.
use Rattle.opening.proofs.PartLaws.{Searched}
use Rattle.opening.proofs.parts.first.Given as goal

abbrev pub invariant-loop-place : goal.invariant-loop-place
invariant-loop-place g l = Searched g.P.Property.property l.part l.place
