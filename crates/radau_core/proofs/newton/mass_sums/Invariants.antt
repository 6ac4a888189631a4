-- What each loop of `mass_sums` keeps.
use Rattle.words.proofs.Loops.{Ran, Any}
use Rattle.solve_blocks.specs.Entries.{three}
use Rattle.solve_blocks.specs.Newton.{sums, mass_sum_at}
use Rattle.radau_core.proofs.newton.mass_sums.Given as goal

abbrev pub invariant-loop-j : goal.invariant-loop-j
invariant-loop-j l = Ran (mass_sum_at l.mode l.n l.mass (three l.f1 l.f2 l.f3) l.i) Any 0 l.n l.j
    (sums l.initial.sum1 l.initial.sum2 l.initial.sum3) (sums l.sum1 l.sum2 l.sum3)
