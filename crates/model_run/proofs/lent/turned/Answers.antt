-- `turned` meets its contract: what the host wrote and replied, and an advance that is admitted.
use mathlib.Core.Path.{sym, subst, ◌∙◌}
use Rattle.state.specs.Memory.{Memory}
use Rattle.state.specs.Lent.{memory_of}
use Rattle.solve_blocks.proofs.AdmittedLaws.{Admitted, admitted}
use Rattle.history.specs.Host.{Action, wrote}
use Rattle.history.specs.History.{Point, point}
use Rattle.radau_core.specs.Places.{run_at}
use Rattle.model_run.specs.Host.{answered_by}
use Rattle.model_run.proofs.TurnLaws.{turn-admitted}
use Rattle.model_run.proofs.lent.turned.Goals as goal

pub advanced-requires : goal.advanced-requires
advanced-requires c =
    let memory-at : Memory = let a = c.args in
    memory_of a.y.now a.f0.now a.rtol.now a.atol.now a.mass.now a.work.now in
    let done-at : Action = let a = c.args in
    answered_by a.reactions a.rates.now a.species.now a.call.request a.call.place memory-at in
    let wrote_at : Memory = wrote c.args.call.request c.args.call.place done-at memory-at in
    let a = c.args in
    let r = run_at a.words.now a.doubles.now in
    let q =
    subst (λ (m : Memory). Admitted r m)
    (sym (c.answer_by_plan-reply.ensures.f_origin_after memory-at.amounts.scal memory-at.newton.f2 memory-at.newton.f3
    memory-at.given memory-at.factors))
    (admitted r done-at.reply wrote_at c.requires.admits) in
    record {
      sized = c.requires.sized;
      fit = (q.fit, q.stage);
      memory_long = q.long;
    }

pub returns-clause-f_origin_after : goal.returns-clause-f_origin_after
returns-clause-f_origin_after c =
    let memory-at : Memory = let a = c.args in
    memory_of a.y.now a.f0.now a.rtol.now a.atol.now a.mass.now a.work.now in
    let here-at : Point = let a = c.args in
    point (run_at a.words.now a.doubles.now) a.call.request a.call.place memory-at in
    let a = c.args in
    turn-admitted a.reactions a.rates.now a.species.now here-at
    c.answer_by_plan-reply.ensures.value
    (c.answer_by_plan-reply.ensures.f_origin_after memory-at.amounts.scal memory-at.newton.f2 memory-at.newton.f3
    memory-at.given memory-at.factors)
    c.requires.admits c.advanced.ensures.f_origin_after
