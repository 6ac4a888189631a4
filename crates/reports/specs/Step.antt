-- From one report of a run to the next, each request between them being answered by a host.
use Rattle.std.specs.Prelude.{ℕ, zero, suc, Bool, true, false}
use Rattle.words.specs.Loop.{pick}
use Rattle.state.specs.declared.talk.Request.{Request}
use Rattle.state.specs.declared.talk.Request.TheVariants as request
use Rattle.history.specs.History.{Point}
use Rattle.model_run.specs.Budget.{Answering, turn_of}

-- a point is reported, or the run has ended
unfoldable pub is_told : Request → Bool
is_told (request.Derivative x) = false
is_told (request.Jacobian x) = false
is_told (request.Report xold x offered) = true
is_told (request.Ended s) = true

-- one turn, and more up to k until one is told
unfoldable pub told_of : Answering → ℕ → Point → Point
told_of host zero here = here
told_of host (suc k) here =
    let next = turn_of host here in pick (is_told next.request) next (told_of host k next)
