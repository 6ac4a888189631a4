-- `turned` meets its contract: what the host wrote and replied, an advance, and where its answer leaves the talk.
use mathlib.Core.Path.{◌≡◌, ◌∙◌}
use Rattle.state.specs.Memory.{Memory, memory, amounts, newton, given, factors, differences}
use Rattle.solve_blocks.specs.Advance.{advance_outcome, advance_of}
use Rattle.history.specs.Host.{Action, wrote}
use Rattle.history.specs.History.{Point, point}
use Rattle.model_run.specs.Host.{answered_by}
use Rattle.model_run.proofs.TurnLaws.{turn-of}
use Rattle.reports.proofs.turn.turned.Goals as goal

pub shape_of-y : goal.shape_of-y
shape_of-y c = c.advance-led.auto.y

pub shape_of-f0 : goal.shape_of-f0
shape_of-f0 c = c.answer-reply.auto.f0

pub shape_of-scal : goal.shape_of-scal
shape_of-scal c = c.advance-led.auto.scal

pub shape_of-cont : goal.shape_of-cont
shape_of-cont c = c.advance-led.auto.cont

pub shape_of-z1 : goal.shape_of-z1
shape_of-z1 c = c.advance-led.auto.z1 ∙ c.answer-reply.auto.z1

pub shape_of-z2 : goal.shape_of-z2
shape_of-z2 c = c.advance-led.auto.z2 ∙ c.answer-reply.auto.z2

pub shape_of-z3 : goal.shape_of-z3
shape_of-z3 c = c.advance-led.auto.z3
    ∙ c.answer-reply.auto.z3

pub shape_of-f1 : goal.shape_of-f1
shape_of-f1 c = c.advance-led.auto.f1
    ∙ c.answer-reply.auto.f1

pub shape_of-f2 : goal.shape_of-f2
shape_of-f2 c = c.advance-led.auto.f2

pub shape_of-f3 : goal.shape_of-f3
shape_of-f3 c = c.advance-led.auto.f3

pub shape_of-jac : goal.shape_of-jac
shape_of-jac c = c.advance-led.auto.jac

pub shape_of-e1 : goal.shape_of-e1
shape_of-e1 c = c.advance-led.auto.e1

pub shape_of-e2r : goal.shape_of-e2r
shape_of-e2r c = c.advance-led.auto.e2r

pub shape_of-e2i : goal.shape_of-e2i
shape_of-e2i c = c.advance-led.auto.e2i

pub shape_of-ip1 : goal.shape_of-ip1
shape_of-ip1 c = c.advance-led.auto.ip1

pub shape_of-ip2 : goal.shape_of-ip2
shape_of-ip2 c = c.advance-led.auto.ip2

pub shape_of-y_perturbed : goal.shape_of-y_perturbed
shape_of-y_perturbed c = c.advance-led.auto.y_perturbed

pub shape_of-f_perturbed : goal.shape_of-f_perturbed
shape_of-f_perturbed c = c.advance-led.auto.f_perturbed
    ∙ c.answer-reply.auto.f_perturbed

pub shape_of-f_origin : goal.shape_of-f_origin
shape_of-f_origin c = c.advance-led.auto.f_origin
    ∙ c.answer-reply.auto.f_origin

pub returns : goal.returns
returns c =
    let memory-at : Memory = let a = c.args in
    memory
    (amounts a.y.now a.f0.now a.scal.now a.cont.now)
    (newton a.z1.now a.z2.now a.z3.now a.f1.now a.f2.now a.f3.now)
    (given a.rtol.now a.atol.now a.mass.now a.jac.now)
    (factors a.e1.now a.e2r.now a.e2i.now a.ip1.now a.ip2.now)
    (differences a.y_perturbed.now a.f_perturbed.now a.f_origin.now) in
    let memory-answered : Memory = let a = c.args in
    memory
    (amounts a.y.now c.answer-reply.new.f0 a.scal.now a.cont.now)
    (newton c.answer-reply.new.z1 c.answer-reply.new.z2
    c.answer-reply.new.z3
    c.answer-reply.new.f1 a.f2.now a.f3.now)
    (given a.rtol.now a.atol.now a.mass.now a.jac.now)
    (factors a.e1.now a.e2r.now a.e2i.now a.ip1.now a.ip2.now)
    (differences a.y_perturbed.now c.answer-reply.new.f_perturbed
    c.answer-reply.new.f_origin) in
    let memory-advanced : Memory = let a = c.args in
    memory
    (amounts c.advance-led.new.y c.answer-reply.new.f0 c.advance-led.new.scal
    c.advance-led.new.cont)
    (newton c.advance-led.new.z1 c.advance-led.new.z2
    c.advance-led.new.z3 c.advance-led.new.f1
    c.advance-led.new.f2 c.advance-led.new.f3)
    (given a.rtol.now a.atol.now a.mass.now c.advance-led.new.jac)
    (factors c.advance-led.new.e1
    c.advance-led.new.e2r
    c.advance-led.new.e2i
    c.advance-led.new.ip1
    c.advance-led.new.ip2)
    (differences c.advance-led.new.y_perturbed
    c.advance-led.new.f_perturbed
    c.advance-led.new.f_origin) in
    let a = c.args in
    let done : Action = answered_by a.reactions a.rates.now a.species.now a.pending.request a.pending.place memory-at in
    let written : memory-answered ≡ wrote a.pending.request a.pending.place done memory-at =
    c.answer-reply.ensures.f_origin_after a.scal.now a.f2.now a.f3.now
    (given a.rtol.now a.atol.now a.mass.now a.jac.now)
    (factors a.e1.now a.e2r.now a.e2i.now a.ip1.now a.ip2.now) in
    let led : advance_outcome c.advance-led.result memory-advanced
    ≡ (advance_of a.pending.run c.answer-reply.result memory-answered).core = c.advance-led.ensures in
    let here : Point = point a.pending.run a.pending.request a.pending.place memory-at in
    c.next.ensures memory-at memory-advanced
    ∙ turn-of a.reactions a.rates.now a.species.now here
    {p = c.answer-reply.result} {m = memory-answered} {w = memory-advanced} {a = c.advance-led.result}
    c.answer-reply.ensures.value written led
