-- `fill` meets its contract: what was matched names the part, and what was called filled it.
use mathlib.Core.Path.{refl}
use Rattle.state.specs.declared.talk.Place.TheVariants as place
use Rattle.history.specs.Host.{part_at, filled}
use Rattle.model_run.specs.Host.{source_at}
use Rattle.model_run.proofs.HostLaws.{hosted, filled_at}
use Rattle.model_run.proofs.planned.fill.Goals as goal

pub returns-in-Nowhere-clause-f_origin_after : goal.returns-in-Nowhere-clause-f_origin_after
unfolding filled part_at source_at
returns-in-Nowhere-clause-f_origin_after c =
    let a = c.args in
    let lent = hosted a.y.now a.f0.now a.cont.now a.z1.now a.z2.now a.z3.now a.f1.now
    a.y_perturbed.now a.f_perturbed.now a.f_origin.now in
    λ scal f2 f3 g f.
    filled_at a.reactions a.rates.now a.species.now a.place place.Nowhere (lent scal f2 f3 g f) c.in-Nowhere.is
    refl

pub returns-in-YToF0-clause-f_origin_after : goal.returns-in-YToF0-clause-f_origin_after
unfolding filled part_at source_at
returns-in-YToF0-clause-f_origin_after c =
    let a = c.args in
    let lent = hosted a.y.now a.f0.now a.cont.now a.z1.now a.z2.now a.z3.now a.f1.now
    a.y_perturbed.now a.f_perturbed.now a.f_origin.now in
    λ scal f2 f3 g f.
    filled_at a.reactions a.rates.now a.species.now a.place place.YToF0 (lent scal f2 f3 g f) c.in-YToF0.is
    c.derivative_by_plan.ensures.dy_after

pub returns-in-ContToZ1-clause-f_origin_after : goal.returns-in-ContToZ1-clause-f_origin_after
unfolding filled part_at source_at
returns-in-ContToZ1-clause-f_origin_after c =
    let a = c.args in
    let lent = hosted a.y.now a.f0.now a.cont.now a.z1.now a.z2.now a.z3.now a.f1.now
    a.y_perturbed.now a.f_perturbed.now a.f_origin.now in
    λ scal f2 f3 g f.
    filled_at a.reactions a.rates.now a.species.now a.place place.ContToZ1 (lent scal f2 f3 g f) c.in-ContToZ1.is
    c.derive_first.ensures.part_after

pub returns-in-ContToZ2-clause-f_origin_after : goal.returns-in-ContToZ2-clause-f_origin_after
unfolding filled part_at source_at
returns-in-ContToZ2-clause-f_origin_after c =
    let a = c.args in
    let lent = hosted a.y.now a.f0.now a.cont.now a.z1.now a.z2.now a.z3.now a.f1.now
    a.y_perturbed.now a.f_perturbed.now a.f_origin.now in
    λ scal f2 f3 g f.
    filled_at a.reactions a.rates.now a.species.now a.place place.ContToZ2 (lent scal f2 f3 g f) c.in-ContToZ2.is
    c.derive_first-in-ContToZ2.ensures.part_after

pub returns-in-ContToZ3-clause-f_origin_after : goal.returns-in-ContToZ3-clause-f_origin_after
unfolding filled part_at source_at
returns-in-ContToZ3-clause-f_origin_after c =
    let a = c.args in
    let lent = hosted a.y.now a.f0.now a.cont.now a.z1.now a.z2.now a.z3.now a.f1.now
    a.y_perturbed.now a.f_perturbed.now a.f_origin.now in
    λ scal f2 f3 g f.
    filled_at a.reactions a.rates.now a.species.now a.place place.ContToZ3 (lent scal f2 f3 g f) c.in-ContToZ3.is
    c.derive_first-in-ContToZ3.ensures.part_after

pub returns-in-ContToF1-clause-f_origin_after : goal.returns-in-ContToF1-clause-f_origin_after
unfolding filled part_at source_at
returns-in-ContToF1-clause-f_origin_after c =
    let a = c.args in
    let lent = hosted a.y.now a.f0.now a.cont.now a.z1.now a.z2.now a.z3.now a.f1.now
    a.y_perturbed.now a.f_perturbed.now a.f_origin.now in
    λ scal f2 f3 g f.
    filled_at a.reactions a.rates.now a.species.now a.place place.ContToF1 (lent scal f2 f3 g f) c.in-ContToF1.is
    c.derive_first-in-ContToF1.ensures.part_after

pub returns-in-YToFOrigin-clause-f_origin_after : goal.returns-in-YToFOrigin-clause-f_origin_after
unfolding filled part_at source_at
returns-in-YToFOrigin-clause-f_origin_after c =
    let a = c.args in
    let lent = hosted a.y.now a.f0.now a.cont.now a.z1.now a.z2.now a.z3.now a.f1.now
    a.y_perturbed.now a.f_perturbed.now a.f_origin.now in
    λ scal f2 f3 g f.
    filled_at a.reactions a.rates.now a.species.now a.place place.YToFOrigin (lent scal f2 f3 g f)
    c.in-YToFOrigin.is
    c.derivative_by_plan-in-YToFOrigin.ensures.dy_after

pub returns-in-YPerturbedToFPerturbed-clause-f_origin_after :
    goal.returns-in-YPerturbedToFPerturbed-clause-f_origin_after
unfolding filled part_at source_at
returns-in-YPerturbedToFPerturbed-clause-f_origin_after c =
    let a = c.args in
    let lent = hosted a.y.now a.f0.now a.cont.now a.z1.now a.z2.now a.z3.now a.f1.now
    a.y_perturbed.now a.f_perturbed.now a.f_origin.now in
    λ scal f2 f3 g f.
    filled_at a.reactions a.rates.now a.species.now a.place place.YPerturbedToFPerturbed (lent scal f2 f3 g f)
    c.in-YPerturbedToFPerturbed.is c.derivative_by_plan-in-YPerturbedToFPerturbed.ensures.dy_after
