-- What the host does at a request. A derivative is the model's, of the amounts that the place names; a report is
-- answered by 'continue'. The derivative of a model may be refused, and then nothing is written: of a model whose
-- species and lengths fit it never is.
use Rattle.std.specs.Prelude.{ℕ, List, [], length, take, Float}
use Rattle.state.specs.declared.talk.Place.{Place}
use Rattle.state.specs.declared.talk.Place.TheVariants as place
use Rattle.state.specs.declared.talk.Reply.{Reply}
use Rattle.state.specs.declared.talk.Reply.TheVariants as reply
use Rattle.state.specs.declared.talk.Request.{Request}
use Rattle.state.specs.declared.talk.Request.TheVariants as request
use Rattle.state.specs.Memory.{Memory}
use Rattle.history.specs.Host.{part_at, Action}
use Rattle.model.specs.Derivative.{derived_of}

-- the amounts of which a derivative is asked: where they stand in cont, its first n entries
unfoldable pub source_at : Place → Memory → List Float
source_at place.Nowhere m = []
source_at place.YToF0 m = m.amounts.y
source_at place.ContToZ1 m = take (length m.amounts.y) m.amounts.cont
source_at place.ContToZ2 m = take (length m.amounts.y) m.amounts.cont
source_at place.ContToZ3 m = take (length m.amounts.y) m.amounts.cont
source_at place.ContToF1 m = take (length m.amounts.y) m.amounts.cont
source_at place.YToFOrigin m = m.amounts.y
source_at place.YPerturbedToFPerturbed m = m.differences.y_perturbed

unfoldable pub reply_to : Request → Reply
reply_to (request.Derivative x) = reply.Filled
reply_to (request.Jacobian x) = reply.Filled
reply_to (request.Report xold x offered) = reply.Continue
reply_to (request.Ended s) = reply.Filled

-- a reply, and a part that is filled
abbrev pub action : Request → List Float → Memory → Action
action q v m = record { reply = reply_to q; part = v; amounts = m.amounts.y }

-- the derivative of the first `reactions` reactions that stand in `rates` and `species`
abbrev pub derived_at : ℕ → List Float → List ℕ → Place → Memory → List Float
derived_at reactions rates species p m = (derived_of reactions (source_at p m) rates species (part_at p m)).dy

unfoldable pub answered_by : ℕ → List Float → List ℕ → Request → Place → Memory → Action
answered_by reactions rates species (request.Derivative x) p m =
    action (request.Derivative x) (derived_at reactions rates species p m) m
answered_by reactions rates species (request.Jacobian x) p m = action (request.Jacobian x) m.given.jac m
answered_by reactions rates species (request.Report xold x offered) p m = action (request.Report xold x offered) [] m
answered_by reactions rates species (request.Ended s) p m = action (request.Ended s) [] m
