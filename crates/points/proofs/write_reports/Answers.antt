-- `write_reports` keeps the length of each part that it is lent: `next_report` does.
use Rattle.std.proofs.Common.{◌∙◌, arith}
use Rattle.state.specs.Memory.{memory, amounts, newton, given, factors, differences}
use Rattle.model_run.proofs.Lengths.{same}
use Rattle.points.proofs.write_reports.Goals as goal

pub loop-init : goal.loop-init
loop-init c =
    let a = c.args in
    same (memory (amounts a.y.now a.f0.now a.scal.now a.cont.now)
    (newton a.z1.now a.z2.now a.z3.now a.f1.now a.f2.now a.f3.now)
    (given a.rtol.now a.atol.now a.mass.now a.jac.now)
    (factors a.e1.now a.e2r.now a.e2i.now a.ip1.now a.ip2.now)
    (differences a.y_perturbed.now a.f_perturbed.now a.f_origin.now))

pub overflow_step : goal.overflow_step
overflow_step c = omega (arith, c.loop-test.true)

pub loop-smaller : goal.loop-smaller
loop-smaller c = omega (arith, c.loop-test.true)

pub loop-preserved : goal.loop-preserved
loop-preserved c =
    let k = c.next_report-pending.auto in
    let l = c.loop.invariant in
    record {
      y = k.y ∙ l.y;
      f0 = k.f0 ∙ l.f0;
      scal = k.scal ∙ l.scal;
      cont = k.cont ∙ l.cont;
      z1 = k.z1 ∙ l.z1;
      z2 = k.z2 ∙ l.z2;
      z3 = k.z3 ∙ l.z3;
      f1 = k.f1 ∙ l.f1;
      f2 = k.f2 ∙ l.f2;
      f3 = k.f3 ∙ l.f3;
      jac = k.jac ∙ l.jac;
      e1 = k.e1 ∙ l.e1;
      e2r = k.e2r ∙ l.e2r;
      e2i = k.e2i ∙ l.e2i;
      ip1 = k.ip1 ∙ l.ip1;
      ip2 = k.ip2 ∙ l.ip2;
      y_perturbed = k.y_perturbed ∙ l.y_perturbed;
      f_perturbed = k.f_perturbed ∙ l.f_perturbed;
      f_origin = k.f_origin ∙ l.f_origin;
    }
