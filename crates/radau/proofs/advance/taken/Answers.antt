-- `taken` meets its contract: refused by the admission, or advanced where the run was put.
use mathlib.Core.Path.{◌≡◌, sym, ap, ◌∙◌}
use Rattle.state.specs.declared.run.Run.{Run}
use Rattle.std.specs.Prelude.{Ok}
use Rattle.state.specs.Talk.{Answer, Verdict, call, passed_all}
use Rattle.state.specs.Memory.{Memory}
use Rattle.state.specs.Lent.{memory_of}
use Rattle.solve_blocks.specs.Advance.{AdvanceOutcome, advance_outcome, advance_by}
use Rattle.solve_blocks.proofs.AdmittedLaws.{admitted}
use Rattle.solve_blocks.proofs.AdvanceLaws.{advance-refused}
use Rattle.radau_core.proofs.PackLaws.{held_at, admitted-at}
use Rattle.radau.proofs.advance.taken.Goals as goal

answered : {a b : Answer} {w : Memory} {o : AdvanceOutcome} → a ≡ b → advance_outcome b w ≡ o → advance_outcome a w ≡ o
answered {w = w} e q = ap (λ (x : Answer). advance_outcome x w) e ∙ q

pub advanced-call-requires : goal.advanced-call-requires
advanced-call-requires c =
    let memory-at : Memory = let a = c.args in
    memory_of a.y.now a.f0.now a.rtol.now a.atol.now a.mass.now a.work.now in
    let all = admitted-at c.args.run c.words_of-words.ensures c.doubles_of-doubles.ensures
    (admitted c.args.run c.args.reply memory-at (sym c.admission_lent.ensures ∙ c.in_default.is)) in
    record { sized = all.0; fit = all.1.0; memory_long = all.1.1 }

pub returns-in-Err-clause-outcome : goal.returns-in-Err-clause-outcome
returns-in-Err-clause-outcome c =
    let memory-at : Memory = let a = c.args in
    memory_of a.y.now a.f0.now a.rtol.now a.atol.now a.mass.now a.work.now in
    advance-refused c.args.run c.args.reply memory-at _ (sym c.admission_lent.ensures ∙ c.in-Err.is)

pub returns-clause-outcome : goal.returns-clause-outcome
returns-clause-outcome c =
    let memory-at : Memory = let a = c.args in
    memory_of a.y.now a.f0.now a.rtol.now a.atol.now a.mass.now a.work.now in
    answered
    (ap (λ (r : Run). Ok (call r c.advanced-call.result.request c.advanced-call.result.place))
    c.run_at.ensures)
    (c.advanced-call.ensures.f_origin_after
    ∙ ap (λ (r : Run). (advance_by passed_all r c.args.reply memory-at).core)
    (held_at c.args.run c.words_of-words.ensures c.doubles_of-doubles.ensures)
    ∙ ap (λ (v : Verdict). (advance_by v c.args.run c.args.reply memory-at).core)
    (sym (sym c.admission_lent.ensures ∙ c.in_default.is)))
