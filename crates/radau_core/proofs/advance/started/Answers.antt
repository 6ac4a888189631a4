-- `started` meets its contract.
use mathlib.Core.Path.{ap}
use native.Mathlib.Omega.{arith}
use Rattle.state.specs.Memory.{memory, amounts, given}
use Rattle.solve_blocks.proofs.AdvanceLaws.{started-asked, started-on, heard-fits}
use Rattle.radau_core.specs.declared.step.Heard.{Heard}
use Rattle.radau_core.specs.Places.{run_at, heard_at}
use Rattle.radau_core.proofs.advance.started.Goals as goal

pub scaled-requires : goal.scaled-requires
scaled-requires c = let a = c.args in
    let r = run_at a.words.now a.doubles.now in
    let f = heard-fits (ap (λ (h : Heard). heard_at h r) c.in-Reported.is) c.requires.0 in (
      omega (arith, f, c.requires.1),
      omega (arith, f, c.requires.2),
      omega (arith, f),
      omega (arith, f, c.requires.3),
    )

pub returns-in-Asked : goal.returns-in-Asked
returns-in-Asked c = λ f0 cont mass jac z f d. let a = c.args in
    let r = run_at a.words.now a.doubles.now in
    started-asked (heard_at a.heard r)
    (memory (amounts a.y.now f0 a.scal.now cont) z (given a.rtol.now a.atol.now mass jac) f d) _
    (ap (λ (h : Heard). heard_at h r) c.in-Asked.is)

pub shape_of-scal : goal.shape_of-scal
shape_of-scal c = c.scaled.auto.scal

pub returns-in-Reported : goal.returns-in-Reported
returns-in-Reported c = λ f0 cont mass jac z f d. let a = c.args in
    let r = run_at a.words.now a.doubles.now in
    started-on (heard_at a.heard r)
    (memory (amounts a.y.now f0 a.scal.now cont) z (given a.rtol.now a.atol.now mass jac) f d) _ _
    (ap (λ (h : Heard). heard_at h r) c.in-Reported.is) (rw c.tolerances_at-tolerances.ensures at c.scaled.ensures)
