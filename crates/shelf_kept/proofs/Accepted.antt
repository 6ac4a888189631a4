-- What is put at reports is what was accepted: at every point of a journal, but for the step that is held there.
use mathlib.Core.Path.{◌≡◌, refl, sym, ap, subst, ◌∙◌}
use mathlib.Core.Bool.{Bool, true, false, true≢false, not, ◌&&◌, ◌||◌}
use mathlib.Core.List.{List, [], ◌∷◌}
use lib.Ieee.{Float}
use Rattle.words.specs.Loop.{loop, pick}
use Rattle.words.proofs.Branch.{pick_yes, pick_no}
use Rattle.state.specs.declared.run.Run.{Run}
use Rattle.state.specs.declared.run.Stage.{Stage}
use Rattle.state.specs.declared.run.Stage.TheVariants as stage
use Rattle.state.specs.declared.talk.Place.{Place}
use Rattle.state.specs.declared.talk.Place.TheVariants as place
use Rattle.state.specs.declared.talk.Reply.{Reply}
use Rattle.state.specs.declared.talk.Reply.TheVariants as reply
use Rattle.state.specs.declared.talk.Request.{Request}
use Rattle.state.specs.declared.talk.Request.TheVariants as request
use Rattle.state.specs.Memory.{Memory}
use Rattle.opening.specs.Rows.{Opening}
use Rattle.opening.specs.Admission.{asking_at, answers_report}
use Rattle.solve_blocks.specs.Events.{Logged}
use Rattle.solve_blocks.specs.Matrices.{pass_at, passes_of}
use Rattle.solve_blocks.specs.Report.{ask_report}
use Rattle.solve_blocks.specs.Advance.{Called, replied_of, called_of}
use Rattle.solve_blocks.proofs.AdvanceWhole.{whole_of}
use Rattle.history.specs.Host.{Action, filled, modified, wrote}
use Rattle.account.specs.Journal.{Fair, Turn, turn, Journal, next}
use Rattle.account.specs.Reading.{is_report, later_all}
use Rattle.account.proofs.Matches.{matches-report}
use Rattle.account.proofs.Advance.{handed, advanced, next-is}
use Rattle.account.proofs.Sound.{passes, in-kind, everywhere, kept}
use Rattle.account.proofs.Journals.{Sound}
use Rattle.shelf.specs.Shelf.{Step, step}
use Rattle.shelf_kept.specs.Kept.{step_held, accepts, modifies, steps_accepted, unreported, reported_in}
use Rattle.shelf_kept.proofs.Ways.{way_of, is_accepted, is_later, is_begun, is_first}
use Rattle.shelf_kept.proofs.Ways.{Comes, Goes, goes-closed}

-- ---- the host writes no coefficients

filled-cont : (p : Place) (v : List Float) (m : Memory) → (filled p v m).amounts.cont ≡ m.amounts.cont
unfolding filled
filled-cont place.Nowhere v m = refl
filled-cont place.YToF0 v m = refl
filled-cont place.ContToZ1 v m = refl
filled-cont place.ContToZ2 v m = refl
filled-cont place.ContToZ3 v m = refl
filled-cont place.ContToF1 v m = refl
filled-cont place.YToFOrigin v m = refl
filled-cont place.YPerturbedToFPerturbed v m = refl

modified-cont : (p : Reply) (y : List Float) (m : Memory) → (modified p y m).amounts.cont ≡ m.amounts.cont
unfolding modified
modified-cont reply.Filled y m = refl
modified-cont reply.Continue y m = refl
modified-cont reply.Interrupt y m = refl
modified-cont (reply.Modified x) y m = refl
modified-cont (reply.Mark x) y m = refl

wrote-cont : (q : Request) (p : Place) (a : Action) (m : Memory) → (wrote q p a m).amounts.cont ≡ m.amounts.cont
unfolding wrote
wrote-cont (request.Derivative x) p a m = filled-cont p a.part m
wrote-cont (request.Jacobian x) p a m = refl
wrote-cont (request.Report xold x offered) p a m = modified-cont a.reply a.amounts m
wrote-cont (request.Ended s) p a m = refl

-- ---- the advance from an acceptance to its report keeps the step

abbrev step_called : Logged Called → Step
step_called l =
    step l.core.memory.amounts.cont l.core.call.run.numbers.xold l.core.call.run.numbers.h

reports-step : (r : Run) (p : Reply) (m : Memory) → r.stage ≡ stage.Accepted
    → step_called (whole_of r p m) ≡ step m.amounts.cont r.numbers.xold r.numbers.h
unfolding replied_of called_of passes_of pass_at loop pick ask_report
reports-step r p m e = rw e refl

-- ---- what is put at reports

unfoldable pub puts_in : List Turn → List Step
puts_in [] = []
puts_in (t ∷ ts) =
    pick (modifies t.action.reply) []
    (pick (is_report t.here.request && reported_in ts) (step_held t.here ∷ puts_in ts) (puts_in ts))

-- the step at hand is accepted, and not yet put
abbrev pub due : Stage → Bool
due s = is_accepted s || is_later s

pub record Told (j : Journal) : Type 0 where
  pub steps : steps_accepted j.point j.turns
      ≡ pick (due j.point.run.stage) (step_held j.point ∷ puts_in j.turns) (puts_in j.turns)
  pub begun : reported_in j.turns ≡ is_begun j.point.run.stage
  pub pending : unreported j.turns ≡ is_accepted j.point.run.stage

-- ---- by stage

pub reports-due : (s : Stage) → is_accepted s ≡ false → (asking_at s).report && is_begun s ≡ due s
unfolding asking_at is_begun is_accepted is_later way_of
reports-due stage.FirstDerivative e = refl
reports-due stage.FirstReport e = refl
reports-due stage.FirstDerivativeAgain e = refl
reports-due stage.Jacobian e = refl
reports-due (stage.Column c) e = refl
reports-due stage.Newton1 e = refl
reports-due stage.Newton2 e = refl
reports-due stage.Newton3 e = refl
reports-due stage.Refinement e = refl
reports-due stage.Accepted e = sym e
reports-due stage.Report e = refl
reports-due stage.DerivativeAgain e = refl
reports-due (stage.Ended t) e = refl

begins : (s : Stage) → (asking_at s).report || is_begun s ≡ not (is_first s)
unfolding asking_at is_begun is_first way_of
begins stage.FirstDerivative = refl
begins stage.FirstReport = refl
begins stage.FirstDerivativeAgain = refl
begins stage.Jacobian = refl
begins (stage.Column c) = refl
begins stage.Newton1 = refl
begins stage.Newton2 = refl
begins stage.Newton3 = refl
begins stage.Refinement = refl
begins stage.Accepted = refl
begins stage.Report = refl
begins stage.DerivativeAgain = refl
begins (stage.Ended t) = refl

false-true : false ≡ true → ⊥
false-true e = true≢false (sym e)

or-false : (b : Bool) → b || false ≡ b
or-false true = refl
or-false false = refl

or-true : (b : Bool) {c : Bool} → c ≡ true → b || c ≡ true
or-true true e = refl
or-true false e = e

not-both : (s : Stage) → is_later s ≡ true → is_accepted s ≡ false
unfolding is_later is_accepted way_of
not-both stage.FirstDerivative e = refl
not-both stage.FirstReport e = refl
not-both stage.FirstDerivativeAgain e = refl
not-both stage.Jacobian e = refl
not-both (stage.Column c) e = refl
not-both stage.Newton1 e = refl
not-both stage.Newton2 e = refl
not-both stage.Newton3 e = refl
not-both stage.Refinement e = refl
not-both stage.Accepted e = sym e
not-both stage.Report e = refl
not-both stage.DerivativeAgain e = refl
not-both (stage.Ended t) e = refl

is-accepted : (s : Stage) → is_accepted s ≡ true → s ≡ stage.Accepted
unfolding is_accepted way_of
is-accepted stage.FirstDerivative e = absurd (false-true e)
is-accepted stage.FirstReport e = absurd (false-true e)
is-accepted stage.FirstDerivativeAgain e = absurd (false-true e)
is-accepted stage.Jacobian e = absurd (false-true e)
is-accepted (stage.Column c) e = absurd (false-true e)
is-accepted stage.Newton1 e = absurd (false-true e)
is-accepted stage.Newton2 e = absurd (false-true e)
is-accepted stage.Newton3 e = absurd (false-true e)
is-accepted stage.Refinement e = absurd (false-true e)
is-accepted stage.Accepted e = refl
is-accepted stage.Report e = absurd (false-true e)
is-accepted stage.DerivativeAgain e = absurd (false-true e)
is-accepted (stage.Ended t) e = absurd (false-true e)

not-modified : (p : Reply) → answers_report p ≡ false → modifies p ≡ false
unfolding answers_report modifies
not-modified reply.Filled e = refl
not-modified reply.Continue e = refl
not-modified reply.Interrupt e = refl
not-modified (reply.Modified x) e = e
not-modified (reply.Mark x) e = refl

-- ---- one advance

module _ (o : Opening) (j : Journal) (a : Action) (s : Sound o j) (fair : Fair j.point a) (told : Told j) where
  abbrev r : Run
  r = j.point.run

  abbrev l : Logged Called
  l = whole_of r a.reply (handed j a)

  abbrev here : Turn
  here = turn j.point a l.log

  comes : Comes r.stage l.log l.core.call.run.stage
  unfolding Goes later_all
  comes =
      everywhere o s.none j a s.held fair
      (goes-closed r.stage a.reply (kept o s.none j a s.held fair).mass
      (kept o s.none j a s.held fair).jac)
      (record { quiet = refl; is = refl })

  asks-report : is_report j.point.request ≡ (asking_at r.stage).report
  asks-report = matches-report s.held.matches

  report-begun : is_report j.point.request && reported_in j.turns
      ≡ (asking_at r.stage).report && is_begun r.stage
  report-begun = λ i. asks-report i && told.begun i

  abbrev before : List Step
  before = pick (modifies a.reply) [] (steps_accepted j.point j.turns)

  -- where the step at hand was not accepted by the advance before, the reply leaves what was put
  before-put : is_accepted r.stage ≡ false → before ≡ puts_in (here ∷ j.turns)
  unfolding puts_in
  before-put off =
      ap (pick (modifies a.reply) [])
      (told.steps
      ∙ ap (λ b. pick b (step_held j.point ∷ puts_in j.turns) (puts_in j.turns))
      (sym (report-begun ∙ reports-due r.stage off)))

  -- at an acceptance nothing is modified, and the report takes the step over
  accepted-put : is_accepted r.stage ≡ true → (before ≡ step_held j.point ∷ puts_in j.turns)
      × (puts_in (here ∷ j.turns) ≡ puts_in j.turns)
  unfolding puts_in is_accepted asking_at way_of
  accepted-put on =
      let at : r.stage ≡ stage.Accepted = is-accepted r.stage on in
      let quiet : (asking_at r.stage).report ≡ false = ap (λ t. (asking_at t).report) at in
      let plain : modifies a.reply ≡ false =
      not-modified a.reply ((in-kind o s.none j a s.held fair).1 ∙ quiet) in (
        pick_no _ _ plain ∙ told.steps
            ∙ pick_yes _ _ (ap (λ b. b || is_later r.stage) on),
        pick_no _ _ plain ∙ pick_no _ _ (ap (λ b. b && reported_in j.turns) (asks-report ∙ quiet)),
      )

  accepted-step : is_accepted r.stage ≡ true → step_held j.point ≡ step_held (advanced j a).point
  accepted-step on =
      sym (reports-step r a.reply (handed j a) (is-accepted r.stage on)
      ∙ ap (λ c. step c r.numbers.xold r.numbers.h)
      (wrote-cont j.point.request j.point.place a j.point.memory))

  abbrev after-stage : Stage
  after-stage = l.core.call.run.stage

  steps_next : steps_accepted (advanced j a).point (here ∷ j.turns)
      ≡ pick (due after-stage) (step_held (advanced j a).point ∷ puts_in (here ∷ j.turns)) (puts_in (here ∷ j.turns))
  unfolding steps_accepted
  steps_next = by (is_accepted r.stage) refl
    where
      by : (b : Bool) → is_accepted r.stage ≡ b
          → pick (accepts l.log) (step_held (advanced j a).point ∷ before) before
          ≡ pick (due after-stage) (step_held (advanced j a).point ∷ puts_in (here ∷ j.turns))
          (puts_in (here ∷ j.turns))
      by false e =
          let same : accepts l.log ≡ due after-stage =
          comes.accepted ∙ sym (or-false (is_accepted after-stage))
          ∙ ap (λ b. is_accepted after-stage || b) (sym (comes.later ∙ e)) in
          ap (λ (x : List Step). pick (accepts l.log) (step_held (advanced j a).point ∷ x) x) (before-put e)
          ∙ ap (λ b. pick b (step_held (advanced j a).point ∷ puts_in (here ∷ j.turns)) (puts_in (here ∷ j.turns))) same
      by true e =
          let later : is_later after-stage ≡ true = comes.later ∙ e in
          let none : accepts l.log ≡ false = comes.accepted ∙ not-both after-stage later in
          pick_no _ _ none ∙ (accepted-put e).0
          ∙ ap (λ (x : Step). x ∷ puts_in j.turns) (accepted-step e)
          ∙ ap (λ (x : List Step). step_held (advanced j a).point ∷ x) (sym (accepted-put e).1)
          ∙ sym (pick_yes _ _ (or-true (is_accepted after-stage) later))

  told-advanced : Told (advanced j a)
  unfolding reported_in unreported
  told-advanced =
      record {
        steps = steps_next;
        begun = (λ i. asks-report i || told.begun i) ∙ begins r.stage ∙ sym comes.begun;
        pending = comes.accepted;
      }

  pub told-next : Told (next j a)
  told-next = subst Told (sym (next-is j a (passes o s.none j a s.held fair))) told-advanced
