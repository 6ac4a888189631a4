-- What each loop of `passes` keeps.
use Prim.Native.Nat.{◌-◌}
use Rattle.words.proofs.Loops.{Ran}
use Rattle.state.specs.Memory.{factors}
use Rattle.solve_blocks.specs.Matrices.{Tried, tried}
use Rattle.solve_blocks.specs.Needs.{FactorsLong}
use Rattle.solve_blocks.proofs.PassLaws.{passed}
use Rattle.radau_core.specs.Places.{run_at, Sized, step_at}
use Rattle.radau_core.proofs.passes.passes.Given as goal

abbrev pub invariant-loop : goal.invariant-loop
invariant-loop l = Sized l.words l.doubles
    × Ran (passed l.mass l.jac) (λ (t : Tried). FactorsLong l.n t.factors) 0 6 l.counter
    (tried (step_at l.initial.s (run_at l.initial.words l.initial.doubles))
    (factors l.initial.e1 l.initial.e2r l.initial.e2i l.initial.ip1 l.initial.ip2))
    (tried (step_at l.s (run_at l.words l.doubles)) (factors l.e1 l.e2r l.e2i l.ip1 l.ip2))

abbrev pub decreases-loop : goal.decreases-loop
decreases-loop l = 6 - l.counter
