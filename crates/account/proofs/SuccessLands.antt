-- Where success lands: an attempt that is still aimed when it is accepted has gone from xold by the step xend ⊖ xold,
-- rounded as the Rust rounds it. An aim sets the step, an attempt the point that it leads to, an acceptance moves
-- there; every rule between that changes one of them ends the aim.
--     lands-first     an accepted opening is not aimed
--     lands-closed    every rule keeps what an aim says
--     lands-next      an advance goes on from where the last one left it
--     lands-report    so the report of an aimed attempt names the point where it landed
use mathlib.Core.Path.{◌≡◌, refl, sym, ap, ◌∙◌, subst}
use mathlib.Core.Bool.{Bool, true, false, false≢true}
use mathlib.Core.List.{List, []}
use lib.Ieee.{Float}
use Rattle.words.specs.Words.{◌⊕◌, ◌⊖◌}
use Rattle.state.specs.declared.run.Control.{Control}
use Rattle.state.specs.declared.run.Run.{Run}
use Rattle.state.specs.declared.run.Stage.{Stage}
use Rattle.state.specs.declared.run.Stage.TheVariants as stage
use Rattle.state.specs.declared.talk.Reply.{Reply}
use Rattle.state.specs.declared.talk.Request.{Request}
use Rattle.state.specs.declared.talk.Request.TheVariants as request
use Rattle.opening.specs.Opening.{first_control}
use Rattle.state.specs.declared.talk.Call.{Call}
use Rattle.solve_blocks.specs.Report.{ask_modified}
use Rattle.solve_blocks.specs.Events.{Event}
use Rattle.solve_blocks.proofs.Rules.{Position, replied, reporting, arrived, main, matrices}
use Rattle.solve_blocks.proofs.Rules.{attempt, failing, newton, estimate, judging, asked, Closed}

-- ---- what an aim says

-- before the attempt is begun: its step is what is left
abbrev pub Aims : Run → Type 0
Aims r = r.control.last ≡ true → r.numbers.h ≡ r.fixed.xend ⊖ r.numbers.x

-- while it goes on: it leads by that step from x to xph
abbrev pub Leads : Run → Type 0
Leads r = r.control.last ≡ true → r.numbers.xph ≡ r.numbers.x ⊕ (r.fixed.xend ⊖ r.numbers.x)

-- past its acceptance: x was reached by it from xold
abbrev pub Landed : Run → Type 0
Landed r = r.control.last ≡ true → r.numbers.x ≡ r.numbers.xold ⊕ (r.fixed.xend ⊖ r.numbers.xold)

-- at the reply to a stage; up to the first attempt there is no aim, and past the last report a host may have moved x,
-- to which an end by success is indifferent
unfoldable pub LandsAt : Stage → Run → Type 0
LandsAt stage.FirstDerivative r = r.control.last ≡ false
LandsAt stage.FirstReport r = r.control.last ≡ false
LandsAt stage.FirstDerivativeAgain r = r.control.last ≡ false
LandsAt stage.Jacobian r = Aims r
LandsAt (stage.Column c) r = Aims r
LandsAt stage.Newton1 r = Leads r
LandsAt stage.Newton2 r = Leads r
LandsAt stage.Newton3 r = Leads r
LandsAt stage.Refinement r = Leads r
LandsAt stage.Accepted r = Landed r
LandsAt stage.Report r = Landed r
LandsAt stage.DerivativeAgain r = Unit
LandsAt (stage.Ended s) r = Unit

-- a report names the points of the run
unfoldable pub Reports : Request → Run → Type 0
Reports (request.Derivative x) r = Unit
Reports (request.Jacobian x) r = Unit
Reports (request.Report xold x offered) r = (xold ≡ r.numbers.xold) × (x ≡ r.numbers.x)
Reports (request.Ended s) r = Unit

-- at a position, whatever has happened; a report may be answered by any new point, and a failure ends an aim anyway
unfoldable pub Lands : List Event → Position → Type 0
Lands es (replied s r) = LandsAt s r
Lands es (reporting s r) = (x : Float) → LandsAt s (ask_modified s x r).run
Lands es (arrived r) = Unit
Lands es (main r) = Aims r
Lands es (matrices r) = Aims r
Lands es (attempt r) = Aims r
Lands es (failing r) = Unit
Lands es (newton r) = Leads r
Lands es (estimate r) = Leads r
Lands es (judging r) = Leads r
Lands es (asked c) = LandsAt c.run.stage c.run × Reports c.request c.run

-- ---- the ends

pub lands-first : (r : Run) → r.stage ≡ stage.FirstDerivative → r.control ≡ first_control
    → Lands [] (replied r.stage r)
unfolding Lands LandsAt
lands-first r at control = subst (λ (s : Stage). LandsAt s r) (sym at) (ap (λ (c : Control). c.last) control)

pub lands-next : (es : List Event) (c : Call) → Lands es (asked c) → Lands [] (replied c.run.stage c.run)
unfolding Lands
lands-next es c w = w.0

-- ---- the rules

-- where there is no aim, it says nothing
unaimed : {A : Type 0} {last : Bool} → last ≡ false → last ≡ true → A
unaimed off on = absurd (false≢true (sym off ∙ on))

pub lands-closed : (p : Reply) (mass jac : List Float) → Closed p mass jac Lands
unfolding Lands LandsAt Reports
lands-closed p mass jac =
    record {
      first-filled = λ w. (w, (refl, refl));
      first-report = λ w x. w;
      later-report = λ w x. tt;
      interrupted = λ _ w. (tt, tt);
      modified = λ x _ w. (w x, tt);
      first-told = λ {es} {r} mark _ _ w. unaimed (w r.numbers.x);
      later-told = λ mark _ _ w. tt;
      first-again = λ w. unaimed w;
      later-again = λ w. tt;
      success = λ _ w. (tt, tt);
      aims = λ hnew hhfac jac _ _ w _. refl;
      onward = λ hnew h hhfac decomp jac off _ w. unaimed off;
      host-asked = λ _ _ w. (w, tt);
      origin-asked = λ _ _ w. (w, tt);
      jacobian-kept = λ _ w. w;
      host-filled = λ w. w;
      origin-filled = λ w. (w, tt);
      column-filled = λ c _ w. (w, tt);
      columns-filled = λ c _ w. w;
      matrices-kept = λ _ w. w;
      real-stopped = λ f k _ _ w. tt;
      complex-stopped = λ f k _ _ _ w. tt;
      decomposed = λ f _ _ _ w. w;
      sixth = λ _ w. (tt, tt);
      another = λ h hhfac _ w. unaimed refl;
      limited = λ _ w. (tt, tt);
      shortened = λ _ _ w. (tt, tt);
      begins = λ {es} {r} faccon theta x _ _ w. (λ on. ap (λ (h : Float). r.numbers.x ⊕ h) (w on), tt);
      first-stage = λ x w. (w, tt);
      second-stage = λ x w. (w, tt);
      not-near = λ theta thqold faccon dynold w. w;
      near = λ theta thqold faccon dynold w. w;
      diverges = λ theta thqold faccon dynold _ w. tt;
      -- the Rust rule judges a shortened step by the point that the whole one led to, but not as an aimed one
      slow-rust = λ theta thqold faccon dynold dyth h hhfac _ _ w. unaimed refl;
      slow-book = λ theta thqold faccon dynold dyth h hhfac _ _ w. unaimed refl;
      used-up = λ _ w. tt;
      another-round = λ x _ w. (w, tt);
      refines = λ w. (w, tt);
      estimated = λ w. w;
      refined = λ w. w;
      accepts = λ err hnew hacc erracc _ w. (w, tt);
      fails-first = λ err hnew h hhfac _ _ w. unaimed refl;
      fails-later = λ err hnew h hhfac _ _ w. unaimed refl;
      accepted-filled = λ offered w. (w, (refl, refl));
    }

-- ---- what it comes to

pub lands-report : (es : List Event) (c : Call) (a b : Float) (offered : Bool) → Lands es (asked c)
    → c.run.stage ≡ stage.Report → c.run.control.last ≡ true
    → c.request ≡ request.Report a b offered → b ≡ a ⊕ (c.run.fixed.xend ⊖ a)
unfolding Lands LandsAt Reports
lands-report es c a b offered w at on is =
    let landed : Landed c.run = subst (λ (s : Stage). LandsAt s c.run) at w.0 in
    let named : (a ≡ c.run.numbers.xold)
    × (b ≡ c.run.numbers.x) = subst (λ (q : Request). Reports q c.run) is w.1 in
    named.1 ∙ landed on ∙ ap (λ (v : Float). v ⊕ (c.run.fixed.xend ⊖ v)) (sym named.0)
