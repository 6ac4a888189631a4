-- What each loop of `write_reports` keeps.
use Rattle.std.proofs.Common.{ℕ, ◌-◌}
use Rattle.state.specs.Memory.{memory, amounts, newton, given, factors, differences}
use Rattle.model_run.proofs.Lengths.{Lengths}
use Rattle.points.proofs.write_reports.Given as goal

-- as many reports as there may be at most
abbrev pub most : ℕ
most = 268_435_456

abbrev pub invariant-loop : goal.invariant-loop
invariant-loop l = Lengths
    (memory (amounts l.initial.y l.initial.f0 l.initial.scal l.initial.cont)
    (newton l.initial.z1 l.initial.z2 l.initial.z3 l.initial.f1 l.initial.f2 l.initial.f3)
    (given l.rtol l.atol l.mass l.initial.jac)
    (factors l.initial.e1 l.initial.e2r l.initial.e2i l.initial.ip1 l.initial.ip2)
    (differences l.initial.y_perturbed l.initial.f_perturbed l.initial.f_origin))
    (memory (amounts l.y l.f0 l.scal l.cont)
    (newton l.z1 l.z2 l.z3 l.f1 l.f2 l.f3)
    (given l.rtol l.atol l.mass l.jac)
    (factors l.e1 l.e2r l.e2i l.ip1 l.ip2)
    (differences l.y_perturbed l.f_perturbed l.f_origin))

abbrev pub decreases-loop : goal.decreases-loop
decreases-loop l = most - l.counter
