-- What each loop of `fill_species` keeps.
use Rattle.words.proofs.Loops.{Ran, Long}
use Rattle.sheet.specs.Fill.{placed, species_at}
use Rattle.sheet.proofs.fill.fill_species.Given as goal

abbrev pub invariant-loop-i : goal.invariant-loop-i
invariant-loop-i l = Ran (placed (species_at l.listed)) (Long l.initial.species) 0 l.n l.i l.initial.species l.species
