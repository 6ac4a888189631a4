-- What each loop of `literal_sides` keeps.
use Rattle.words.proofs.Loops.{Ran}
use Rattle.solve_blocks.specs.Estimate.{Sides, sides, side_at}
use Rattle.solve_blocks.proofs.JudgeLaws.{Both}
use Rattle.radau_core.proofs.estimate.literal_sides.Given as goal

abbrev pub invariant-loop-i : goal.invariant-loop-i
invariant-loop-i l = Ran (side_at l.mode l.n l.mass l.f0 l.f1) (λ (s : Sides). Both s.f2 s.cont l.initial.f2
    l.initial.cont)
    0 l.n l.i (sides l.initial.f2 l.initial.cont) (sides l.f2 l.cont)
