-- `change_all` meets its contract. After i turns the first i reactions have their changes.
use Prim.Native.Nat.{ℕ, ◌+◌, ◌*◌}
use mathlib.Core.Path.{subst, ap, ◌∙◌}
use native.Mathlib.Nat.{le_antisymm}
use native.Mathlib.Omega.{arith}
use lib.ListN.{get_or}
use Rattle.model.specs.Model.{times_amount, speed_of}
use Rattle.model.specs.Plan.{Changes}
use Rattle.model.proofs.PlanLaws.{changes-none, changes-more}
use Rattle.model.proofs.planned.change_all.Goals as goal

pub loop-i-init : goal.loop-i-init
loop-i-init c = (omega arith, omega arith, changes-none _ _ _ _)

pub times_amount-requires : goal.times_amount-requires
times_amount-requires c = c.requires.3
    (4 * c.loop-i.i) (omega arith)

pub times_amount-v-requires : goal.times_amount-v-requires
times_amount-v-requires c = c.requires.3
    (4 * c.loop-i.i + 1) (omega arith)

pub loop-i-preserved : goal.loop-i-preserved
unfolding speed_of
loop-i-preserved c = let a = c.args in
    let l = c.loop-i in
    let m = changes-more a.y.now a.rates.now a.species.now l.i l.changes c.times_amount-v.result
    (omega arith) l.invariant.1
    (c.times_amount-v.ensures
    ∙ ap (times_amount a.y.now (get_or a.species.now (4 * l.i + 1) 0)) c.times_amount.ensures)
    l.invariant.2 in
    (omega arith, m.0, m.1)

pub returns-clause-changed : goal.returns-clause-changed
returns-clause-changed c = let a = c.args in
    let l = c.loop-i in
    subst (λ (k : ℕ). Changes k a.y.now a.rates.now a.species.now l.changes)
    (le_antisymm l.invariant.0 c.loop-i-test.false) l.invariant.2
