-- What a host may do between two advances: it replies, and it writes the part that the request names and no other (01,
-- 'How a run talks'). A derivative request names its part by the place beside it, a request for a Jacobian names `jac`;
-- a report that is answered by 'modified' may have new amounts in y.
use Rattle.std.specs.Prelude.{Bool, true, false, List, [], Float}
use Rattle.state.specs.declared.run.Run.{Run}
use Rattle.state.specs.declared.talk.Request.{Request}
use Rattle.state.specs.declared.talk.Request.TheVariants as request
use Rattle.state.specs.declared.talk.Place.{Place}
use Rattle.state.specs.declared.talk.Place.TheVariants as place
use Rattle.state.specs.declared.talk.Reply.{Reply}
use Rattle.state.specs.declared.talk.Reply.TheVariants as reply
use Rattle.state.specs.Memory.{Memory, memory, amounts, newton, given, differences}

-- the request that nothing answers
unfoldable pub is_end : Request → Bool
is_end (request.Derivative x) = false
is_end (request.Jacobian x) = false
is_end (request.Report xold x offered) = false
is_end (request.Ended s) = true

-- the part that a derivative is written to
unfoldable pub part_at : Place → Memory → List Float
part_at place.Nowhere m = []
part_at place.YToF0 m = m.amounts.f0
part_at place.ContToZ1 m = m.newton.z1
part_at place.ContToZ2 m = m.newton.z2
part_at place.ContToZ3 m = m.newton.z3
part_at place.ContToF1 m = m.newton.f1
part_at place.YToFOrigin m = m.differences.f_origin
part_at place.YPerturbedToFPerturbed m = m.differences.f_perturbed

-- the reply, and what was written: into the part that is to be filled, and into the amounts
pub record Action : Type 0 where
  pub reply : Reply
  pub part : List Float
  pub amounts : List Float

-- a part is filled
unfoldable pub filled : Place → List Float → Memory → Memory
filled place.Nowhere v m = m
filled place.YToF0 v m =
    memory
    (amounts m.amounts.y v m.amounts.scal m.amounts.cont)
    m.newton
    m.given
    m.factors
    m.differences
filled place.ContToZ1 v m =
    memory
    m.amounts
    (newton v m.newton.z2 m.newton.z3 m.newton.f1 m.newton.f2 m.newton.f3)
    m.given
    m.factors
    m.differences
filled place.ContToZ2 v m =
    memory
    m.amounts
    (newton m.newton.z1 v m.newton.z3 m.newton.f1 m.newton.f2 m.newton.f3)
    m.given
    m.factors
    m.differences
filled place.ContToZ3 v m =
    memory
    m.amounts
    (newton m.newton.z1 m.newton.z2 v m.newton.f1 m.newton.f2 m.newton.f3)
    m.given
    m.factors
    m.differences
filled place.ContToF1 v m =
    memory
    m.amounts
    (newton m.newton.z1 m.newton.z2 m.newton.z3 v m.newton.f2 m.newton.f3)
    m.given
    m.factors
    m.differences
filled place.YToFOrigin v m =
    memory
    m.amounts
    m.newton
    m.given
    m.factors
    (differences m.differences.y_perturbed m.differences.f_perturbed v)
filled place.YPerturbedToFPerturbed v m =
    memory
    m.amounts
    m.newton
    m.given
    m.factors
    (differences m.differences.y_perturbed v m.differences.f_origin)

-- the Jacobian is filled
abbrev pub filled_jacobian : List Float → Memory → Memory
filled_jacobian v m =
    memory
    m.amounts
    m.newton
    (given m.given.rtol m.given.atol m.given.mass v)
    m.factors
    m.differences

-- the amounts are new, where the point was modified
unfoldable pub modified : Reply → List Float → Memory → Memory
modified reply.Filled y m = m
modified reply.Continue y m = m
modified reply.Interrupt y m = m
modified (reply.Modified x) y m =
    memory
    (amounts y m.amounts.f0 m.amounts.scal m.amounts.cont)
    m.newton
    m.given
    m.factors
    m.differences
modified (reply.Mark x) y m = m

-- the memory at the next advance
unfoldable pub wrote : Request → Place → Action → Memory → Memory
wrote (request.Derivative x) p a m = filled p a.part m
wrote (request.Jacobian x) p a m = filled_jacobian a.part m
wrote (request.Report xold x offered) p a m = modified a.reply a.amounts m
wrote (request.Ended s) p a m = m
