-- `answer_by_plan` meets its contract: what was matched says what is asked, and only a derivative is written.
use mathlib.Core.Path.{refl, sym, ap}
use native.Mathlib.Omega.{arith}
use Rattle.history.specs.Host.{modified, wrote}
use Rattle.model_run.specs.Host.{reply_to, answered_by}
use Rattle.model_run.proofs.HostLaws.{hosted, wrote_at}
use Rattle.model_run.proofs.planned.answer_by_plan.Goals as goal

pub returns-in-Derivative : goal.returns-in-Derivative
unfolding wrote answered_by reply_to
returns-in-Derivative c =
    let a = c.args in
    let lent = hosted a.y.now a.f0.now a.cont.now a.z1.now a.z2.now a.z3.now a.f1.now
    a.y_perturbed.now a.f_perturbed.now a.f_origin.now in
    record {
      value = ap reply_to (sym c.in-Derivative.is);
      f_origin_after = λ scal f2 f3 g f.
          wrote_at a.reactions a.rates.now a.species.now a.request _ a.place (lent scal f2 f3 g f) c.in-Derivative.is
          (c.fill.ensures.f_origin_after scal f2 f3 g f);
      changes_len = c.fill.ensures.changes_len;
    }

pub returns-in-Jacobian : goal.returns-in-Jacobian
unfolding wrote answered_by reply_to
returns-in-Jacobian c =
    let a = c.args in
    let lent = hosted a.y.now a.f0.now a.cont.now a.z1.now a.z2.now a.z3.now a.f1.now
    a.y_perturbed.now a.f_perturbed.now a.f_origin.now in
    record {
      value = ap reply_to (sym c.in-Jacobian.is);
      f_origin_after = λ scal f2 f3 g f.
          wrote_at a.reactions a.rates.now a.species.now a.request _ a.place (lent scal f2 f3 g f) c.in-Jacobian.is
          refl;
      changes_len = omega arith;
    }

pub returns-in-Report : goal.returns-in-Report
unfolding wrote answered_by reply_to modified
returns-in-Report c =
    let a = c.args in
    let lent = hosted a.y.now a.f0.now a.cont.now a.z1.now a.z2.now a.z3.now a.f1.now
    a.y_perturbed.now a.f_perturbed.now a.f_origin.now in
    record {
      value = ap reply_to (sym c.in-Report.is);
      f_origin_after = λ scal f2 f3 g f.
          wrote_at a.reactions a.rates.now a.species.now a.request _ a.place (lent scal f2 f3 g f) c.in-Report.is refl;
      changes_len = omega arith;
    }

pub returns-in-Ended : goal.returns-in-Ended
unfolding wrote answered_by reply_to
returns-in-Ended c =
    let a = c.args in
    let lent = hosted a.y.now a.f0.now a.cont.now a.z1.now a.z2.now a.z3.now a.f1.now
    a.y_perturbed.now a.f_perturbed.now a.f_origin.now in
    record {
      value = ap reply_to (sym c.in-Ended.is);
      f_origin_after = λ scal f2 f3 g f.
          wrote_at a.reactions a.rates.now a.species.now a.request _ a.place (lent scal f2 f3 g f) c.in-Ended.is refl;
      changes_len = omega arith;
    }
