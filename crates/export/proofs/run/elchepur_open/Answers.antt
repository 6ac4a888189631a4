-- `elchepur_open` meets its contract: the opening is told.
use Rattle.state.specs.Memory.{Memory, memory, amounts, newton, given, factors, differences}
use Rattle.export.proofs.RunLaws.{open-left}
use Rattle.export.proofs.run.elchepur_open.Goals as goal

pub shape_of-f0 : goal.shape_of-f0
shape_of-f0 c = c.open-opened.auto.f0

pub shape_of-scal : goal.shape_of-scal
shape_of-scal c = c.open-opened.auto.scal

pub shape_of-cont : goal.shape_of-cont
shape_of-cont c = c.open-opened.auto.cont

pub shape_of-z1 : goal.shape_of-z1
shape_of-z1 c = c.open-opened.auto.z1

pub shape_of-z2 : goal.shape_of-z2
shape_of-z2 c = c.open-opened.auto.z2

pub shape_of-z3 : goal.shape_of-z3
shape_of-z3 c = c.open-opened.auto.z3

pub shape_of-f1 : goal.shape_of-f1
shape_of-f1 c = c.open-opened.auto.f1

pub shape_of-f2 : goal.shape_of-f2
shape_of-f2 c = c.open-opened.auto.f2

pub shape_of-f3 : goal.shape_of-f3
shape_of-f3 c = c.open-opened.auto.f3

pub shape_of-rtol : goal.shape_of-rtol
shape_of-rtol c = c.open-opened.auto.rtol

pub shape_of-atol : goal.shape_of-atol
shape_of-atol c = c.open-opened.auto.atol

pub shape_of-mass : goal.shape_of-mass
shape_of-mass c = c.open-opened.auto.mass

pub shape_of-jac : goal.shape_of-jac
shape_of-jac c = c.open-opened.auto.jac

pub shape_of-e1 : goal.shape_of-e1
shape_of-e1 c = c.open-opened.auto.e1

pub shape_of-e2r : goal.shape_of-e2r
shape_of-e2r c = c.open-opened.auto.e2r

pub shape_of-e2i : goal.shape_of-e2i
shape_of-e2i c = c.open-opened.auto.e2i

pub shape_of-ip1 : goal.shape_of-ip1
shape_of-ip1 c = c.open-opened.auto.ip1

pub shape_of-ip2 : goal.shape_of-ip2
shape_of-ip2 c = c.open-opened.auto.ip2

pub shape_of-y_perturbed : goal.shape_of-y_perturbed
shape_of-y_perturbed c = c.open-opened.auto.y_perturbed

pub shape_of-f_perturbed : goal.shape_of-f_perturbed
shape_of-f_perturbed c = c.open-opened.auto.f_perturbed

pub shape_of-f_origin : goal.shape_of-f_origin
shape_of-f_origin c = c.open-opened.auto.f_origin

pub returns : goal.returns
returns c =
    let memory-at : Memory = let a = c.args in
    memory
    (amounts a.y.now a.f0.now a.scal.now a.cont.now)
    (newton a.z1.now a.z2.now a.z3.now a.f1.now a.f2.now a.f3.now)
    (given a.rtol.now a.atol.now a.mass.now a.jac.now)
    (factors a.e1.now a.e2r.now a.e2i.now a.ip1.now a.ip2.now)
    (differences a.y_perturbed.now a.f_perturbed.now a.f_origin.now) in
    let memory-left : Memory = let l = c.open-opened.new in
    memory
    (amounts c.args.y.now l.f0 l.scal l.cont)
    (newton l.z1 l.z2 l.z3 l.f1 l.f2 l.f3)
    (given l.rtol l.atol l.mass l.jac)
    (factors l.e1 l.e2r l.e2i l.ip1 l.ip2)
    (differences l.y_perturbed l.f_perturbed l.f_origin) in
    let a = c.args in
    open-left a.words.now a.doubles.now a.told.now a.at.now a.n a.x0 a.xend memory-at memory-left
    c.given_settings.ensures c.tolerances.ensures c.open-opened.ensures c.tell_opened.ensures
