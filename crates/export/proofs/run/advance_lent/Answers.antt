-- `advance_lent` meets its contract: refused by the admission, or the run is advanced where it stands.
use mathlib.Core.Path.{sym, ◌∙◌}
use Rattle.state.specs.Memory.{Memory}
use Rattle.state.specs.Lent.{memory_of}
use Rattle.solve_blocks.proofs.AdmittedLaws.{admitted}
use Rattle.radau_core.proofs.PackLaws.{admitted-at}
use Rattle.export.proofs.RunLaws.{refused-left, asked-left}
use Rattle.export.proofs.run.advance_lent.Goals as goal

pub advanced-call-requires : goal.advanced-call-requires
advanced-call-requires c =
    let memory-at : Memory = let a = c.args in
    memory_of a.y.now a.f0.now a.rtol.now a.atol.now a.mass.now a.work.now in
    let all = admitted-at c.run_at-run.result c.words_of.ensures c.doubles_of.ensures
    (admitted c.run_at-run.result c.reply_of-reply.result memory-at (sym c.admission_lent.ensures ∙ c.in_default.is)) in
    record { sized = all.0; fit = all.1.0; memory_long = all.1.1 }

pub returns-in-Err-clause-outcome : goal.returns-in-Err-clause-outcome
returns-in-Err-clause-outcome c =
    let memory-at : Memory = let a = c.args in
    memory_of a.y.now a.f0.now a.rtol.now a.atol.now a.mass.now a.work.now in
    let a = c.args in
    refused-left a.words.now a.doubles.now a.told.now a.at.now a.reply a.value memory-at
    c.run_at-run.result c.reply_of-reply.result c.run_at-run.ensures c.reply_of-reply.ensures _
    (sym c.admission_lent.ensures ∙ c.in-Err.is) c.refusal_number.ensures

pub returns-clause-outcome : goal.returns-clause-outcome
returns-clause-outcome c =
    let memory-at : Memory = let a = c.args in
    memory_of a.y.now a.f0.now a.rtol.now a.atol.now a.mass.now a.work.now in
    let memory-left : Memory = let a = c.args in
    memory_of c.advanced-call.new.y a.f0.now a.rtol.now a.atol.now a.mass.now c.advanced-call.new.work in
    let a = c.args in
    asked-left a.words.now a.doubles.now a.told.now a.at.now a.reply a.value memory-at
    c.run_at-run.result c.reply_of-reply.result c.run_at-run.ensures c.reply_of-reply.ensures
    c.words_of.result c.advanced-call.new.words c.doubles_of.result c.advanced-call.new.doubles
    c.advanced-call.result.request c.advanced-call.result.place memory-left
    (sym c.admission_lent.ensures ∙ c.in_default.is) c.words_of.ensures c.doubles_of.ensures
    c.advanced-call.ensures.f_origin_after c.tell_call.ensures
