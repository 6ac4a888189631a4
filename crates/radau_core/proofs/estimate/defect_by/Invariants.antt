-- What each loop of `defect_by` keeps.
use Rattle.words.proofs.Loops.{Ran, Long}
use Rattle.solve_blocks.specs.Entries.{three}
use Rattle.solve_blocks.specs.Estimate.{defect_at}
use Rattle.radau_core.proofs.estimate.defect_by.Given as goal

abbrev pub invariant-loop-i : goal.invariant-loop-i
invariant-loop-i l = Ran (defect_at l.hee1 l.hee2 l.hee3 (three l.z1 l.z2 l.z3)) (Long l.initial.f1) 0 l.n l.i
    l.initial.f1 l.f1
