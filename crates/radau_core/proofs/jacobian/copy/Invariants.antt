-- What each loop of `copy` keeps.
use Rattle.solve_blocks.proofs.JacobianLaws.{Copied}
use Rattle.radau_core.proofs.jacobian.copy.Given as goal

abbrev pub invariant-loop-i : goal.invariant-loop-i
invariant-loop-i l = Copied l.from l.i l.to
