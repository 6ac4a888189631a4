-- `derivative_by_plan` meets its contract.
use Rattle.std.proofs.Common.{sym, ap, ◌∙◌, arith, rules}
use Rattle.model.specs.Answers.{Derivation}
use Rattle.model.specs.Plan.{Planned}
use Rattle.model.proofs.Theorems.{accepted}
use Rattle.model.proofs.PlanLaws.{planned-derivative}
use Rattle.model.proofs.planned.derivative_by_plan.Goals as goal

pub returns-in-Some-clause-dy_after : goal.returns-in-Some-clause-dy_after
returns-in-Some-clause-dy_after c = let a = c.args in
    let p = c.in-Some.plan.now in
    let known : Planned p.n a.reactions a.species.now p.starts p.terms = search rules in
    planned-derivative p.n a.reactions a.y.now a.rates.now a.species.now p.starts p.terms c.change_all.new.changes
    c.sum_all.new.dy known c.change_all.ensures.changed c.if-y-plan.true (omega arith)
    (λ s h. c.sum_all.ensures s (omega arith))
    ∙ sym (ap (λ (d : Derivation). d.dy)
    (accepted a.reactions a.y.now a.rates.now a.species.now a.dy.now
    (record { target = omega arith; enough-rates = c.if-reactions-rates.true; enough-species = known.enough })
    (λ k h. omega (arith, known.known k h))))
