-- The aim, the failures and the landing, as a journal tells them (`Standing` of Reading.antt), are those of
-- the run at every request.
--     Stands                      what the open stage says of a run and a standing; marks_of has the stages' table
--     stands-closed               the rules of an advance keep it
--     stands-opening              it holds before any turn
--     stands-start, stands-end    from a request to the next; `past_answer` is Reading's `past_reply`, by whether a
--                                 report was open
use Prim.Native.Nat.{ℕ, ◌+◌, ◌≤◌, ◌<◌}
use mathlib.Core.Path.{◌≡◌, refl, sym, ap, ap₂, subst, ◌∙◌}
use mathlib.Core.Bool.{Bool, true, false, not, ◌&&◌, ◌||◌, false≢true, true≢false}
use mathlib.Core.List.{List, [], ◌∷◌, ◌++◌}
use native.Mathlib.Omega.{arith}
use lib.Dec.{eqb}
use lib.Ieee.{Float}
use borrow.Author.Tests.{eq-eqb, ne_eqb}
use Rattle.words.specs.Loop.{pick}
use Rattle.state.specs.declared.run.Run.{Run}
use Rattle.state.specs.declared.run.Stage.{Stage}
use Rattle.state.specs.declared.run.Stage.TheVariants as stage
use Rattle.state.specs.declared.run.Status.{Status}
use Rattle.state.specs.declared.run.Status.TheVariants as status
use Rattle.state.specs.declared.talk.Reply.{Reply}
use Rattle.opening.specs.Admission.{asking_at}
use Rattle.state.specs.declared.talk.Call.{Call}
use Rattle.solve_blocks.specs.Events.{Event}
use Rattle.solve_blocks.specs.Report.{is_interrupt}
use Rattle.account.specs.Reading.{Standing, standing, failure, aiming, past_event, past_events}
use Rattle.solve_blocks.proofs.Rules.{Position, replied, reporting, arrived, main, matrices}
use Rattle.solve_blocks.proofs.Rules.{attempt, failing, newton, estimate, judging, asked, Closed}

-- ---- what a stage says

pub record Marks : Type 0 where
  -- before the first attempt
  pub early : Bool
  -- the failures since the last acceptance are those that the run has counted; at any other stage there is none
  pub live : Bool
  -- past an acceptance, its report not answered; the report answered by a modified point
  pub awaits : Bool
  pub again : Bool
  -- ended by success; by a sixth failure
  pub well : Bool
  pub singular : Bool

abbrev pub marks : Bool → Bool → Bool → Bool → Bool → Bool → Marks
marks early live awaits again well singular = record {
  early = early;
  live = live;
  awaits = awaits;
  again = again;
  well = well;
  singular = singular;
}

abbrev pub starting : Marks
starting = marks true false false false false false

abbrev pub working : Marks
working = marks false true false false false false

abbrev pub waiting : Marks
waiting = marks false false true false false false

abbrev pub answered : Marks
answered = marks false false false true false false

unfoldable pub end_marks : Status → Marks
end_marks status.Success = marks false false false false true false
end_marks status.UserInterrupt = marks false false false false false false
end_marks status.NeedLargerNMax = working
end_marks status.StepSizeTooSmall = working
end_marks status.SingularMatrix = marks false true false false false true

unfoldable pub marks_of : Stage → Marks
marks_of stage.FirstDerivative = starting
marks_of stage.FirstReport = starting
marks_of stage.FirstDerivativeAgain = starting
marks_of stage.Jacobian = working
marks_of (stage.Column c) = working
marks_of stage.Newton1 = working
marks_of stage.Newton2 = working
marks_of stage.Newton3 = working
marks_of stage.Refinement = working
marks_of stage.Accepted = waiting
marks_of stage.Report = waiting
marks_of stage.DerivativeAgain = answered
marks_of (stage.Ended s) = end_marks s

-- last and count are the run's aim and its failures; a sixth failure ends the run with its aim left as it was
pub record StandsAs (ended : Bool) (m : Marks) (last : Bool) (count : ℕ) (st : Standing) : Type 0 where
  pub aim : ended ≡ false → st.aim ≡ last
  pub failures : st.failures ≡ pick m.live count 0
  pub early : m.early ≡ true → (count ≡ 0) × (last ≡ false)
  pub awaited : st.awaited ≡ (m.awaits && last)
  pub landed : st.landed ≡ (m.again && last || m.well)
  pub singular : eqb st.failures 6 ≡ m.singular
  pub low : ended ≡ false → count ≤ 5

abbrev pub Stands : Stage → Run → Standing → Type 0
Stands s r st = StandsAs (asking_at s).ended (marks_of s) r.control.last r.control.singular_count st

-- ---- and a position

-- a failure is told, and not counted yet
record Failing (count : ℕ) (st : Standing) : Type 0 where
  aim : st.aim ≡ false
  failures : st.failures ≡ count + 1
  awaited : st.awaited ≡ false
  landed : st.landed ≡ false
  low : count ≤ 5

-- past the reply to a report: the end, or the stage of a derivative
record Answered (p : Reply) (again : Stage) (r : Run) (st : Standing) : Type 0 where
  interrupted : is_interrupt p ≡ true → Stands (stage.Ended status.UserInterrupt) r st
  told : is_interrupt p ≡ false → Stands again r st

record Replied (p : Reply) (s : Stage) (r : Run) (st : Standing) : Type 0 where
  plain : (asking_at s).report ≡ false → Stands s r st
  first : s ≡ stage.FirstReport → Answered p stage.FirstDerivativeAgain r st
  later : s ≡ stage.Report → Answered p stage.DerivativeAgain r st

abbrev Works : Marks → Run → Standing → Type 0
Works m r st = StandsAs false m r.control.last r.control.singular_count st

abbrev Holds : Reply → Position → Standing → Type 0
Holds p (replied s r) st = Replied p s r st
Holds p (reporting s r) st = Answered p s r st
Holds p (arrived r) st = Works answered r st
Holds p (main r) st = Works working r st
Holds p (matrices r) st = Works working r st
Holds p (attempt r) st = Works working r st
Holds p (failing r) st = Failing r.control.singular_count st
Holds p (newton r) st = Works working r st
Holds p (estimate r) st = Works working r st
Holds p (judging r) st = Works working r st
Holds p (asked c) st = Stands c.run.stage c.run st

-- from the standing past the reply
pub StandsAt : Reply → Standing → List Event → Position → Type 0
StandsAt p st es at = Holds p at (past_events es st)

-- ---- one block of events after another

past-append : (es fs : List Event) (st : Standing) → past_events (es ++ fs) st ≡ past_events fs (past_events es st)
unfolding past_events
past-append [] fs st = refl
past-append (e ∷ es) fs st = past-append es fs (past_event e st)

-- ---- from one kind of position to another

works : {last : Bool} {count : ℕ} {st : Standing} → st.aim ≡ last → st.failures ≡ count → st.awaited ≡ false
    → st.landed ≡ false → count ≤ 5
    → StandsAs false working last count st
unfolding pick
works {st = st} a f w l low =
    record {
      aim = λ e. a;
      failures = f;
      early = λ e. absurd (false≢true e);
      awaited = w;
      landed = l;
      singular = ne_eqb st.failures 6 (omega arith);
      low = λ e. low;
    }

-- an ended run has no attempt to speak of
ends : {m : Marks} {last : Bool} {count : ℕ} {st : Standing} → m.early ≡ false → st.failures ≡ pick m.live count 0
    → st.awaited ≡ (m.awaits && last)
    → st.landed ≡ (m.again && last || m.well) → eqb st.failures 6 ≡ m.singular → StandsAs true m last count st
ends n f w l s =
    record {
      aim = λ e. absurd (true≢false e);
      failures = f;
      early = λ e. absurd (true≢false (sym e ∙ n));
      awaited = w;
      landed = l;
      singular = s;
      low = λ e. absurd (true≢false e);
    }

module _ {last : Bool} {count : ℕ} {st : Standing} where
  -- nothing has failed, and nothing is aimed at
  begin : StandsAs false starting last count st → StandsAs false working last count st
  unfolding pick
  begin h = works (h.aim refl) (h.failures ∙ sym (h.early refl).0) h.awaited h.landed (h.low refl)

  finish : StandsAs false working last count st → StandsAs true working last count st
  finish h = ends refl h.failures h.awaited h.landed h.singular

  miss : StandsAs false working last count st → StandsAs false working false count (aiming false st)
  unfolding pick
  miss h = works refl h.failures h.awaited h.landed (h.low refl)

  fail : StandsAs false working last count st → Failing count (failure st)
  unfolding pick
  fail h = record {
    aim = refl;
    failures = ap (λ (k : ℕ). k + 1) h.failures;
    awaited = h.awaited;
    landed = h.landed;
    low = h.low refl;
  }

  accept : StandsAs false working last count st
      → StandsAs false waiting last count (standing st.aim 0 st.aim st.landed)
  unfolding pick
  accept h = record {
    aim = h.aim;
    failures = refl;
    early = h.early;
    awaited = h.aim refl;
    landed = h.landed;
    singular = refl;
    low = h.low;
  }

  -- past a report the run forgets its failures
  clear : {aim next : Bool} → next ≡ aim → last ≡ false → StandsAs false answered last count st
      → StandsAs false working aim 0 (standing next st.failures st.awaited st.landed)
  unfolding pick
  clear a e h = works a h.failures h.awaited (h.landed ∙ ap (λ (b : Bool). b || false) e) (omega arith)

  land : last ≡ true → StandsAs false answered last count st → StandsAs true (end_marks status.Success) last count st
  unfolding pick end_marks
  land e h = ends refl h.failures h.awaited (h.landed ∙ ap (λ (b : Bool). b || false) e) h.singular

end-sixth : {last : Bool} {count : ℕ} {st : Standing} → 5 < count + 1 → Failing count st
    → StandsAs true (end_marks status.SingularMatrix) last (count + 1) st
unfolding pick end_marks
end-sixth {st = st} more h =
    ends refl h.failures h.awaited h.landed (eq-eqb st.failures 6 (omega (arith, h.failures, h.low)))

-- ---- at the opening, before any turn

pub stands-opening : (r : Run) → r.stage ≡ stage.FirstDerivative → r.control.last ≡ false
    → r.control.singular_count ≡ 0 → Stands r.stage r (standing false 0 false false)
unfolding pick asking_at marks_of
stands-opening r s l c =
    subst (λ (t : Stage). Stands t r (standing false 0 false false)) (sym s)
    (record {
      aim = λ e. sym l;
      failures = refl;
      early = λ e. (c, l);
      awaited = refl;
      landed = refl;
      singular = refl;
      low = λ e. omega (arith, c);
    })

-- ---- a report is answered

abbrev pub past_answer : Bool → Reply → Standing → Standing
past_answer report p st =
    pick report (standing st.aim st.failures false (st.landed || st.awaited && not (is_interrupt p))) st

go_on : {m : Marks} {last b : Bool} {count : ℕ} {st : Standing} (again : Bool) → b ≡ (again && last || m.well)
    → StandsAs false m last count st
    → StandsAs false (marks m.early m.live false again m.well m.singular) last count
    (standing st.aim st.failures false b)
go_on again l h = record {
  aim = h.aim;
  failures = h.failures;
  early = h.early;
  awaited = refl;
  landed = l;
  singular = h.singular;
  low = h.low;
}

and-false : (a b : Bool) → b ≡ true → (a && not b) ≡ false
and-false true b e = ap not e
and-false false b e = refl

and-true : (a b : Bool) → b ≡ false → (a && not b) ≡ (true && a || false)
and-true true b e = ap not e
and-true false b e = refl

module _ (r : Run) (p : Reply) (st : Standing) where
  -- an aimed attempt that was accepted has landed, where the report isn't interrupted
  landing : {b : Bool} → st.landed ≡ false → st.awaited ≡ b
      → (st.landed || st.awaited && not (is_interrupt p)) ≡ (b && not (is_interrupt p))
  landing l w = ap₂ (λ (x y : Bool). x || y && not (is_interrupt p)) l w

  first-answer : Stands stage.FirstReport r st → Answered p stage.FirstDerivativeAgain r (past_answer true p st)
  unfolding pick asking_at marks_of end_marks
  first-answer h =
      let l = landing {b = false} h.landed h.awaited in
      record { interrupted = λ e. ends refl h.failures refl l h.singular; told = λ e. go_on false l h }

  later-answer : Stands stage.Report r st → Answered p stage.DerivativeAgain r (past_answer true p st)
  unfolding pick asking_at marks_of end_marks
  later-answer h =
      let l = landing h.landed h.awaited in
      record {
        interrupted =
            λ e. ends refl h.failures refl (l ∙ and-false r.control.last (is_interrupt p) e) h.singular;
        told = λ e. go_on true (l ∙ and-true r.control.last (is_interrupt p) e) h;
      }

  pub stands-start : Stands r.stage r st
      → StandsAt p (past_answer (asking_at r.stage).report p st) [] (replied r.stage r)
  unfolding StandsAt past_events pick asking_at
  stands-start h =
      record {
        plain = λ e. subst (λ (b : Bool). Stands r.stage r (past_answer b p st)) (sym e) h;
        first =
            λ e. subst (λ (s : Stage). Stands s r st
            → Answered p stage.FirstDerivativeAgain r (past_answer (asking_at s).report p st))
            (sym e) first-answer h;
        later =
            λ e. subst
            (λ (s : Stage). Stands s r st → Answered p stage.DerivativeAgain r (past_answer (asking_at s).report p st))
            (sym e) later-answer h;
      }

-- ---- the rules

module _ (p : Reply) (mass jac : List Float) (st : Standing) where
  pub stands-closed : Closed p mass jac (StandsAt p st)
  unfolding StandsAt past_events past_event asking_at marks_of is_interrupt pick end_marks
  stands-closed =
      record {
        first-filled = λ h. h.plain refl;
        first-report = λ h. h.first refl;
        later-report = λ h. h.later refl;
        interrupted = λ e h. h.interrupted e;
        modified = λ x e h. h.told (ap is_interrupt e);
        first-told = λ mark e _ h. begin (h.told e);
        later-told = λ mark e _ h. h.told e;
        first-again = λ h. begin (h.plain refl);
        later-again = λ h. h.plain refl;
        success = λ e h. land e h;
        aims = λ {es} hnew hhfac jac e _ h. rw (past-append es _ st) (clear refl e h);
        onward = λ {es} hnew h hhfac decomp jac e _ w. rw (past-append es _ st) (clear (sym e) e w);
        host-asked = λ j e h. h;
        origin-asked = λ j e h. h;
        jacobian-kept = λ j h. h;
        host-filled = λ h. h.plain refl;
        origin-filled = λ h. h.plain refl;
        column-filled = λ c l h. h.plain refl;
        columns-filled = λ c l h. h.plain refl;
        matrices-kept = λ d h. h;
        real-stopped = λ {es} f k _ _ h. rw (past-append es _ st) (fail h);
        complex-stopped = λ {es} f k _ _ _ h. rw (past-append es _ st) (fail h);
        decomposed = λ {es} f _ _ _ h. rw (past-append es _ st) h;
        sixth = λ more h. end-sixth more h;
        another = λ h hhfac l f. works f.aim f.failures f.awaited f.landed l;
        limited = λ {es} l h. rw (past-append es _ st) (finish h);
        shortened = λ {es} l _ h. rw (past-append es _ st) (finish h);
        begins = λ {es} faccon theta x l _ h. rw (past-append es _ st) h;
        first-stage = λ x h. h.plain refl;
        second-stage = λ x h. h.plain refl;
        not-near = λ theta thqold faccon dynold h. h.plain refl;
        near = λ theta thqold faccon dynold h. h.plain refl;
        diverges = λ {es} theta thqold faccon dynold e h. rw (past-append es _ st) (fail (h.plain refl));
        slow-rust =
            λ {es} theta thqold faccon dynold dyth h hhfac e l w. rw (past-append es _ st) (miss (w.plain refl));
        slow-book =
            λ {es} theta thqold faccon dynold dyth h hhfac e l w. rw (past-append es _ st) (miss (w.plain refl));
        used-up = λ {es} l h. rw (past-append es _ st) (fail h);
        another-round = λ x l h. h;
        refines = λ {es} h. rw (past-append es _ st) h;
        estimated = λ {es} h. rw (past-append es _ st) h;
        refined = λ h. h.plain refl;
        accepts = λ {es} err hnew hacc erracc e h. rw (past-append es _ st) (accept h);
        fails-first = λ {es} err hnew h hhfac e f w. rw (past-append es _ st) (miss w);
        fails-later = λ {es} err hnew h hhfac e f w. rw (past-append es _ st) (miss w);
        accepted-filled = λ offered h. h.plain refl;
      }

  pub stands-end : (es : List Event) (c : Call) → StandsAt p st es (asked c)
      → Stands c.run.stage c.run (past_events es st)
  unfolding StandsAt
  stands-end es c h = h
