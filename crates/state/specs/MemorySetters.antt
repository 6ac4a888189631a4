-- The memory of a run with some of its parts exchanged. Its groups stand in Memory.antt, the setters of a run in
-- crates/solve_blocks/specs/Setters.antt.
use Rattle.std.specs.Prelude.{List, Float}
use Rattle.state.specs.Memory.{Memory, Amounts, Newton, Given, Factors, Differences}
use Rattle.state.specs.Memory.{memory, amounts, newton, given, differences}

-- ---- a group

abbrev pub set_amounts : Amounts → Memory → Memory
set_amounts a m = memory a m.newton m.given m.factors m.differences

abbrev pub set_newton : Newton → Memory → Memory
set_newton z m = memory m.amounts z m.given m.factors m.differences

abbrev pub set_given : Given → Memory → Memory
set_given g m = memory m.amounts m.newton g m.factors m.differences

abbrev pub set_factors : Factors → Memory → Memory
set_factors f m = memory m.amounts m.newton m.given f m.differences

abbrev pub set_differences : Differences → Memory → Memory
set_differences d m = memory m.amounts m.newton m.given m.factors d

-- ---- parts of a group

abbrev pub set_scal : List Float → Memory → Memory
set_scal scal m = set_amounts (amounts m.amounts.y m.amounts.f0 scal m.amounts.cont) m

abbrev pub set_cont : List Float → Memory → Memory
set_cont cont m = set_amounts (amounts m.amounts.y m.amounts.f0 m.amounts.scal cont) m

abbrev pub set_y_cont : List Float → List Float → Memory → Memory
set_y_cont y cont m = set_amounts (amounts y m.amounts.f0 m.amounts.scal cont) m

abbrev pub set_f12 : List Float → List Float → Memory → Memory
set_f12 f1 f2 m = set_newton (newton m.newton.z1 m.newton.z2 m.newton.z3 f1 f2 m.newton.f3) m

abbrev pub set_column : List Float → List Float → Memory → Memory
set_column yp jac m =
    set_differences (differences yp m.differences.f_perturbed m.differences.f_origin)
    (set_given (given m.given.rtol m.given.atol m.given.mass jac) m)
