-- `next_report` meets its contract: the loop is `told_of`, left where a point is told.
use Prim.Native.Nat.{◌+◌}
use mathlib.Core.Path.{◌≡◌, sym, ◌∙◌}
use native.Mathlib.Omega.{arith}
use Rattle.state.specs.Memory.{Memory, memory, amounts, newton, given, factors, differences}
use Rattle.history.specs.History.{Point, point}
use Rattle.model_run.specs.Host.{answered_by}
use Rattle.model_run.specs.Budget.{Answering, turn_of}
use Rattle.model_run.proofs.Lengths.{Lengths, same, after}
use Rattle.reports.proofs.StepLaws.{seeking, passed, told, spent}
use Rattle.reports.proofs.step.next_report.Invariants.{Sought}
use Rattle.reports.proofs.step.next_report.Goals as goal

pub loop-init : goal.loop-init
loop-init c =
    let memory-at : Memory = let a = c.args in
    memory
    (amounts a.y.now a.f0.now a.scal.now a.cont.now)
    (newton a.z1.now a.z2.now a.z3.now a.f1.now a.f2.now a.f3.now)
    (given a.rtol.now a.atol.now a.mass.now a.jac.now)
    (factors a.e1.now a.e2r.now a.e2i.now a.ip1.now a.ip2.now)
    (differences a.y_perturbed.now a.f_perturbed.now a.f_origin.now) in
    let point-at : Point = let p = c.args.pending in point p.run p.request p.place memory-at in
    record { turns = seeking point-at; long = same memory-at }

pub returns-then-is_told : goal.returns-then-is_told
returns-then-is_told c =
    let host-at : Answering = let a = c.args in answered_by a.reactions a.rates.now a.species.now in
    let memory-in : Memory = let a = c.args in
    let l = c.loop in
    memory (amounts l.y l.f0 l.scal l.cont) (newton l.z1 l.z2 l.z3 l.f1 l.f2 l.f3)
    (given a.rtol.now a.atol.now a.mass.now l.jac) (factors l.e1 l.e2r l.e2i l.ip1 l.ip2)
    (differences l.y_perturbed l.f_perturbed l.f_origin) in
    let point-in : Point = let p = c.loop.here in point p.run p.request p.place memory-in in
    let memory-turned : Memory = let a = c.args in
    let t = c.turned-here.new in
    memory (amounts t.y t.f0 t.scal t.cont) (newton t.z1 t.z2 t.z3 t.f1 t.f2 t.f3)
    (given a.rtol.now a.atol.now a.mass.now t.jac) (factors t.e1 t.e2r t.e2i t.ip1 t.ip2)
    (differences t.y_perturbed t.f_perturbed t.f_origin) in
    let point-turned : Point = let p = c.turned-here.result in point p.run p.request p.place memory-turned in
    let turn : point-turned ≡ turn_of host-at point-in = c.turned-here.ensures in
    told c.loop.invariant.turns c.loop-test.true turn (sym c.is_told.ensures ∙ c.if-is_told.true)

pub overflow_step : goal.overflow_step
overflow_step c = omega (arith, c.loop-test.true)

pub loop-smaller : goal.loop-smaller
loop-smaller c = omega (arith, c.loop-test.true)

pub loop-preserved : goal.loop-preserved
loop-preserved c =
    let memory-at : Memory = let a = c.args in
    memory
    (amounts a.y.now a.f0.now a.scal.now a.cont.now)
    (newton a.z1.now a.z2.now a.z3.now a.f1.now a.f2.now a.f3.now)
    (given a.rtol.now a.atol.now a.mass.now a.jac.now)
    (factors a.e1.now a.e2r.now a.e2i.now a.ip1.now a.ip2.now)
    (differences a.y_perturbed.now a.f_perturbed.now a.f_origin.now) in
    let point-at : Point = let p = c.args.pending in point p.run p.request p.place memory-at in
    let host-at : Answering = let a = c.args in answered_by a.reactions a.rates.now a.species.now in
    let memory-in : Memory = let a = c.args in
    let l = c.loop in
    memory (amounts l.y l.f0 l.scal l.cont) (newton l.z1 l.z2 l.z3 l.f1 l.f2 l.f3)
    (given a.rtol.now a.atol.now a.mass.now l.jac) (factors l.e1 l.e2r l.e2i l.ip1 l.ip2)
    (differences l.y_perturbed l.f_perturbed l.f_origin) in
    let point-in : Point = let p = c.loop.here in point p.run p.request p.place memory-in in
    let memory-turned : Memory = let a = c.args in
    let t = c.turned-here.new in
    memory (amounts t.y t.f0 t.scal t.cont) (newton t.z1 t.z2 t.z3 t.f1 t.f2 t.f3)
    (given a.rtol.now a.atol.now a.mass.now t.jac) (factors t.e1 t.e2r t.e2i t.ip1 t.ip2)
    (differences t.y_perturbed t.f_perturbed t.f_origin) in
    let point-turned : Point = let p = c.turned-here.result in point p.run p.request p.place memory-turned in
    let turn : point-turned ≡ turn_of host-at point-in = c.turned-here.ensures in
    let kept : Lengths memory-in memory-turned = record {
      y = c.turned-here.auto.y;
      f0 = c.turned-here.auto.f0;
      scal = c.turned-here.auto.scal;
      cont = c.turned-here.auto.cont;
      z1 = c.turned-here.auto.z1;
      z2 = c.turned-here.auto.z2;
      z3 = c.turned-here.auto.z3;
      f1 = c.turned-here.auto.f1;
      f2 = c.turned-here.auto.f2;
      f3 = c.turned-here.auto.f3;
      jac = c.turned-here.auto.jac;
      e1 = c.turned-here.auto.e1;
      e2r = c.turned-here.auto.e2r;
      e2i = c.turned-here.auto.e2i;
      ip1 = c.turned-here.auto.ip1;
      ip2 = c.turned-here.auto.ip2;
      y_perturbed = c.turned-here.auto.y_perturbed;
      f_perturbed = c.turned-here.auto.f_perturbed;
      f_origin = c.turned-here.auto.f_origin;
    } in
    let sought : Sought host-at (c.loop.counter + 1) point-at point-turned = record {
      turns = passed c.loop.invariant.turns c.loop-test.true turn (sym c.is_told.ensures ∙ c.if-is_told.false);
      long = after kept c.loop.invariant.long;
    } in
    sought

pub returns : goal.returns
returns c = spent c.loop.invariant.turns c.loop-test.false
