-- The open request is that of the stage: a record of two equations (`Matches`), and what they say of the replies that
-- are of the kind asked for, of reports and of ends.
use Prim.Native.Nat.{ℕ, zero, suc, ◌+◌}
use mathlib.Core.Path.{◌≡◌, refl, sym, ap, ◌∙◌}
use mathlib.Core.Bool.{Bool, true, false, true≢false}
use native.Mathlib.Omega.{arith}
use Rattle.state.specs.declared.run.Stage.{Stage}
use Rattle.state.specs.declared.run.Stage.TheVariants as stage
use Rattle.state.specs.declared.run.Status.{Status}
use Rattle.state.specs.declared.run.Status.TheVariants as status
use Rattle.state.specs.declared.talk.Place.{Place}
use Rattle.state.specs.declared.talk.Place.TheVariants as place
use Rattle.state.specs.declared.talk.Reply.{Reply}
use Rattle.state.specs.declared.talk.Reply.TheVariants as reply
use Rattle.state.specs.declared.talk.Request.{Request}
use Rattle.state.specs.declared.talk.Request.TheVariants as request
use Rattle.opening.specs.Admission.{asking_at, answers_report}
use Rattle.history.specs.Host.{is_end}
use Rattle.account.specs.Journal.{of_kind}
use Rattle.account.specs.Reading.{is_report}

-- what a request asks for, apart from the numbers in it
pub data Kind : Type 0 where
  derivative jacobian report : Kind
  ended : Status → Kind

unfoldable pub kind_of : Request → Kind
kind_of (request.Derivative x) = derivative
kind_of (request.Jacobian x) = jacobian
kind_of (request.Report xold x offered) = report
kind_of (request.Ended s) = ended s

unfoldable pub kind_at : Stage → Kind
kind_at stage.FirstDerivative = derivative
kind_at stage.FirstReport = report
kind_at stage.FirstDerivativeAgain = derivative
kind_at stage.Jacobian = jacobian
kind_at (stage.Column c) = derivative
kind_at stage.Newton1 = derivative
kind_at stage.Newton2 = derivative
kind_at stage.Newton3 = derivative
kind_at stage.Refinement = derivative
kind_at stage.Accepted = derivative
kind_at stage.Report = report
kind_at stage.DerivativeAgain = derivative
kind_at (stage.Ended s) = ended s

unfoldable pub place_at : Stage → Place
place_at stage.FirstDerivative = place.YToF0
place_at stage.FirstReport = place.Nowhere
place_at stage.FirstDerivativeAgain = place.YToF0
place_at stage.Jacobian = place.Nowhere
place_at (stage.Column zero) = place.YToFOrigin
place_at (stage.Column (suc c)) = place.YPerturbedToFPerturbed
place_at stage.Newton1 = place.ContToZ1
place_at stage.Newton2 = place.ContToZ2
place_at stage.Newton3 = place.ContToZ3
place_at stage.Refinement = place.ContToF1
place_at stage.Accepted = place.YToF0
place_at stage.Report = place.Nowhere
place_at stage.DerivativeAgain = place.YToF0
place_at (stage.Ended s) = place.Nowhere

pub place_at-next : (c : ℕ) → place.YPerturbedToFPerturbed ≡ place_at (stage.Column (c + 1))
unfolding place_at
place_at-next c = ap (λ (n : ℕ). place_at (stage.Column n)) (let e : suc c ≡ c + 1 = omega arith in e)

pub record Matches (s : Stage) (q : Request) (p : Place) : Type 0 where
  pub kind : kind_of q ≡ kind_at s
  pub place : p ≡ place_at s

-- ---- what a kind says

reports : Kind → Bool
reports derivative = false
reports jacobian = false
reports report = true
reports (ended s) = false

ends : Kind → Bool
ends derivative = false
ends jacobian = false
ends report = false
ends (ended s) = true

-- the status of an end; any other kind has none, and what stands there is not used
status_in : Kind → Status
status_in derivative = status.Success
status_in jacobian = status.Success
status_in report = status.Success
status_in (ended s) = s

of-request : (q : Request) → (is_report q ≡ reports (kind_of q)) × (is_end q ≡ ends (kind_of q))
unfolding is_report is_end reports ends kind_of
of-request (request.Derivative x) = (refl, refl)
of-request (request.Jacobian x) = (refl, refl)
of-request (request.Report xold x offered) = (refl, refl)
of-request (request.Ended s) = (refl, refl)

of-stage : (s : Stage) → (reports (kind_at s) ≡ (asking_at s).report) × (ends (kind_at s) ≡ (asking_at s).ended)
unfolding asking_at reports ends kind_at
of-stage stage.FirstDerivative = (refl, refl)
of-stage stage.FirstReport = (refl, refl)
of-stage stage.FirstDerivativeAgain = (refl, refl)
of-stage stage.Jacobian = (refl, refl)
of-stage (stage.Column c) = (refl, refl)
of-stage stage.Newton1 = (refl, refl)
of-stage stage.Newton2 = (refl, refl)
of-stage stage.Newton3 = (refl, refl)
of-stage stage.Refinement = (refl, refl)
of-stage stage.Accepted = (refl, refl)
of-stage stage.Report = (refl, refl)
of-stage stage.DerivativeAgain = (refl, refl)
of-stage (stage.Ended s) = (refl, refl)

-- a run goes on, or it has ended
pub by-stage : (X : Stage → Type 0) → ((s : Stage) → (asking_at s).ended ≡ false → X s)
    → ((t : Status) → X (stage.Ended t)) → (s : Stage) → X s
unfolding asking_at
by-stage X on end stage.FirstDerivative = on stage.FirstDerivative refl
by-stage X on end stage.FirstReport = on stage.FirstReport refl
by-stage X on end stage.FirstDerivativeAgain = on stage.FirstDerivativeAgain refl
by-stage X on end stage.Jacobian = on stage.Jacobian refl
by-stage X on end (stage.Column c) = on (stage.Column c) refl
by-stage X on end stage.Newton1 = on stage.Newton1 refl
by-stage X on end stage.Newton2 = on stage.Newton2 refl
by-stage X on end stage.Newton3 = on stage.Newton3 refl
by-stage X on end stage.Refinement = on stage.Refinement refl
by-stage X on end stage.Accepted = on stage.Accepted refl
by-stage X on end stage.Report = on stage.Report refl
by-stage X on end stage.DerivativeAgain = on stage.DerivativeAgain refl
by-stage X on end (stage.Ended t) = end t

-- a reply of the kind asked for
of-reply : (q : Request) (a : Reply) → of_kind q a ≡ true → (is_end q ≡ false) × (answers_report a ≡ is_report q)
unfolding of_kind is_end is_report answers_report
of-reply (request.Derivative x) reply.Filled e = (refl, refl)
of-reply (request.Derivative x) reply.Continue e = absurd (true≢false (sym e))
of-reply (request.Derivative x) reply.Interrupt e = absurd (true≢false (sym e))
of-reply (request.Derivative x) (reply.Modified v) e = absurd (true≢false (sym e))
of-reply (request.Derivative x) (reply.Mark v) e = absurd (true≢false (sym e))
of-reply (request.Jacobian x) reply.Filled e = (refl, refl)
of-reply (request.Jacobian x) reply.Continue e = absurd (true≢false (sym e))
of-reply (request.Jacobian x) reply.Interrupt e = absurd (true≢false (sym e))
of-reply (request.Jacobian x) (reply.Modified v) e = absurd (true≢false (sym e))
of-reply (request.Jacobian x) (reply.Mark v) e = absurd (true≢false (sym e))
of-reply (request.Report xold x offered) reply.Filled e = absurd (true≢false (sym e))
of-reply (request.Report xold x offered) reply.Continue e = (refl, refl)
of-reply (request.Report xold x offered) reply.Interrupt e = (refl, refl)
of-reply (request.Report xold x offered) (reply.Modified v) e = (refl, refl)
of-reply (request.Report xold x offered) (reply.Mark v) e = (refl, refl)
of-reply (request.Ended s) a e = absurd (true≢false (sym e))

-- ---- what a match says

module _ {s : Stage} {q : Request} {p : Place} (m : Matches s q p) where
  pub matches-report : is_report q ≡ (asking_at s).report
  matches-report = (of-request q).0 ∙ ap reports m.kind ∙ (of-stage s).0

  pub matches-end : is_end q ≡ (asking_at s).ended
  matches-end = (of-request q).1 ∙ ap ends m.kind ∙ (of-stage s).1

  pub matches-kind : (a : Reply) → of_kind q a ≡ true
      → ((asking_at s).ended ≡ false) × (answers_report a ≡ (asking_at s).report)
  matches-kind a e = let k = of-reply q a e in (sym matches-end ∙ k.0, k.1 ∙ matches-report)

ended-request : (q : Request) (t : Status) → kind_of q ≡ ended t → q ≡ request.Ended t
unfolding kind_of ends status_in
ended-request (request.Derivative x) t e = absurd (true≢false (sym (ap ends e)))
ended-request (request.Jacobian x) t e = absurd (true≢false (sym (ap ends e)))
ended-request (request.Report xold x offered) t e = absurd (true≢false (sym (ap ends e)))
ended-request (request.Ended s) t e = ap request.Ended (ap status_in e)

ended-stage : (s : Stage) (t : Status) → ended t ≡ kind_at s → s ≡ stage.Ended t
unfolding kind_at ends status_in
ended-stage s t =
    by-stage (λ (s : Stage). ended t ≡ kind_at s → s ≡ stage.Ended t)
    (λ s on e. absurd (true≢false (ap ends e ∙ (of-stage s).1 ∙ on))) (λ u e. ap stage.Ended (sym (ap status_in e))) s

pub matches-ended : {t : Status} {q : Request} {p : Place} → Matches (stage.Ended t) q p → q ≡ request.Ended t
unfolding kind_at
matches-ended {t} {q} m = ended-request q t m.kind

pub ended-matches : {t : Status} {s : Stage} {p : Place} → Matches s (request.Ended t) p → s ≡ stage.Ended t
unfolding kind_of
ended-matches {t} {s} m = ended-stage s t m.kind
