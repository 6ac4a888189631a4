-- `Plan::new` meets its contract.
use Rattle.std.proofs.Common.{◌*◌, sym, ◌∙◌, arith}
use Rattle.model.proofs.TestLaws.{none_above}
use Rattle.model.proofs.PlanLaws.{all-planned}
use Rattle.model.proofs.planned.Plan.new.Goals as goal

pub returns : goal.returns
returns c = let a = c.args in
    all-planned a.n a.reactions a.species.now c.list_all.new.starts c.list_all.new.terms (omega arith) (omega arith)
    (omega arith)
    (none_above a.n a.species.now (4 * a.reactions) (omega arith)
    (sym c.unknown_among.ensures ∙ c.if-unknown_among.false))
    c.list_all.ensures c.if-starts-n-gt-TERMS.false
