-- What each loop of `fill_rates` keeps.
use Rattle.words.proofs.Loops.{Ran, Long}
use Rattle.sheet.specs.Fill.{placed, rate_at}
use Rattle.sheet.proofs.fill.fill_rates.Given as goal

abbrev pub invariant-loop-i : goal.invariant-loop-i
invariant-loop-i l = Ran (placed (rate_at l.listed)) (Long l.initial.rates) 0 l.n l.i l.initial.rates l.rates
