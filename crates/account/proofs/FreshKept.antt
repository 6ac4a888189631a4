-- Under the book rule the flag 'made here' of a run says what its journal says (`Here` of Points.antt), at every
-- request; so no Jacobian is asked twice at one point, and no attempt after a failed one goes on with an old one.
--     Open                        what holds at an open request; quiet_at has the stages at which nothing is asked yet
--     fresh-closed                the rules of an advance keep it
--     open-first, open-replied    it holds at the opening, and from a request to where it is answered
use Prim.Native.Nat.{ℕ, ◌+◌, ◌≤◌}
use mathlib.Core.Path.{◌≡◌, refl, sym, ap, ◌∙◌}
use mathlib.Core.Bool.{Bool, true, false, not, true≢false, false≢true}
use mathlib.Core.List.{List, [], ◌∷◌, ◌++◌}
use native.Mathlib.Omega.{arith}
use lib.Ieee.{Float}
use Rattle.words.specs.Loop.{pick}
use Rattle.state.specs.declared.settings.Rule.{Rule}
use Rattle.state.specs.declared.settings.Rule.TheVariants as rule
use Rattle.state.specs.declared.run.Control.{Control}
use Rattle.state.specs.declared.run.Run.{Run}
use Rattle.state.specs.declared.run.Stage.{Stage}
use Rattle.state.specs.declared.run.Stage.TheVariants as stage
use Rattle.state.specs.declared.talk.Place.{Place}
use Rattle.state.specs.declared.talk.Reply.{Reply}
use Rattle.state.specs.declared.talk.Reply.TheVariants as reply
use Rattle.state.specs.declared.talk.Request.{Request}
use Rattle.opening.specs.Admission.{asking_at, answers_report}
use Rattle.state.specs.declared.talk.Call.{Call}
use Rattle.solve_blocks.specs.Events.{Event}
use Rattle.solve_blocks.specs.Matrices.{wished_of}
use Rattle.solve_blocks.proofs.Rules.{Position, replied, reporting, arrived, main, matrices}
use Rattle.solve_blocks.proofs.Rules.{attempt, failing, newton, estimate, judging, asked, Closed}
use Rattle.account.specs.Reading.{one, is_jac, asks_at}
use Rattle.account.specs.Points.{Here, here, new_point, here_event, here_events, moves, here_reply}

-- ---- what holds

-- at the start, at an accepted point and at a report: nothing was asked at this point yet
unfoldable pub quiet_at : Stage → Bool
quiet_at stage.FirstDerivative = true
quiet_at stage.FirstReport = true
quiet_at stage.FirstDerivativeAgain = true
quiet_at stage.Jacobian = false
quiet_at (stage.Column c) = false
quiet_at stage.Newton1 = false
quiet_at stage.Newton2 = false
quiet_at stage.Newton3 = false
quiet_at stage.Refinement = false
quiet_at stage.Accepted = true
quiet_at stage.Report = true
quiet_at stage.DerivativeAgain = true
quiet_at (stage.Ended s) = false

-- made is the run's flag, jac and accepted its counts, more the Jacobian that is asked
module _ (made : Bool) (jac accepted : ℕ) (h : Here) where
  pub record Going (quiet : Bool) (more : ℕ) : Type 0 where
    pub flag : one made ≡ h.jacobians + more
    pub few : jac ≤ accepted + one made
    pub none : quiet ≡ true → (made ≡ false) × (h.failed ≡ false)
    pub again : h.failed ≡ true → made ≡ true

  -- at the top of 'main, by whether a Jacobian is wanted
  record Heading (wish : Bool) : Type 0 where
    flag : one made ≡ h.jacobians
    few : jac ≤ accepted + one made
    again : h.failed ≡ true → wish ≡ not made
    first : h.failed ≡ false → made ≡ false

  -- an attempt has failed
  record Failing : Type 0 where
    flag : one made ≡ h.jacobians
    few : jac ≤ accepted + one made
    failed : h.failed ≡ true

  -- at an open request, the end among them
  pub record Open (ended quiet : Bool) (more : ℕ) : Type 0 where
    pub most : jac ≤ accepted + 1
    pub once : h.jacobians + more ≤ 1
    pub going : ended ≡ false → Going quiet more

abbrev Runs : Bool → Run → Here → Type 0
Runs quiet r h = Going r.control.made_here r.counts.jac r.counts.accepted h quiet 0

abbrev pub OpenAt : Run → Request → Place → Here → Type 0
OpenAt r q w h =
    Open r.control.made_here r.counts.jac r.counts.accepted h (asking_at r.stage).ended
    (quiet_at r.stage) (one (is_jac q w))

abbrev Holds : Position → Here → Type 0
Holds (replied s r) h = Runs (quiet_at s) r h
Holds (reporting s r) h = Runs true r h
Holds (arrived r) h = Runs true r h
Holds (main r) h =
    Heading r.control.made_here r.counts.jac r.counts.accepted h r.control.call_jac
Holds (matrices r) h = Runs false r h
Holds (attempt r) h = Runs false r h
Holds (failing r) h = Failing r.control.made_here r.counts.jac r.counts.accepted h
Holds (newton r) h = Runs false r h
Holds (estimate r) h = Runs false r h
Holds (judging r) h = Runs false r h
Holds (asked c) h = OpenAt c.run c.request c.place h

abbrev rule_at : Position → Rule
rule_at (replied s r) = r.settings.rule
rule_at (reporting s r) = r.settings.rule
rule_at (arrived r) = r.settings.rule
rule_at (main r) = r.settings.rule
rule_at (matrices r) = r.settings.rule
rule_at (attempt r) = r.settings.rule
rule_at (failing r) = r.settings.rule
rule_at (newton r) = r.settings.rule
rule_at (estimate r) = r.settings.rule
rule_at (judging r) = r.settings.rule
rule_at (asked c) = c.run.settings.rule

-- from what was so past the reply, under the book rule
pub FreshAt : Here → List Event → Position → Type 0
FreshAt h es at = rule_at at ≡ rule.Book → Holds at (here_events es h)

-- ---- from one kind of position to another

one-few : (b : Bool) → one b ≤ 1
unfolding pick
one-few true = omega arith
one-few false = omega arith

not-book : {x : Rule} {A : Type 0} → x ≡ rule.Rust → x ≡ rule.Book → A
not-book rust book = absurd (true≢false (cc))

wished : (q : Rule) (c : Control) → q ≡ rule.Book → wished_of q c ≡ not c.made_here
unfolding wished_of
wished q c e = ap (λ (x : Rule). wished_of x c) e

denied : (b : Bool) → true ≡ not b → b ≡ false
denied true e = e
denied false e = refl

granted : (b : Bool) → false ≡ not b → b ≡ true
granted true e = refl
granted false e = e

module _ {made : Bool} {jac accepted : ℕ} {h : Here} where
  asks : {ended quiet : Bool} {more : ℕ} → Going made jac accepted h quiet more
      → Open made jac accepted h ended quiet more
  asks w = record {
    most = omega (arith, w.few, one-few made);
    once = omega (arith, w.flag, one-few made);
    going = λ _. w;
  }

  ends : {quiet other : Bool} → Going made jac accepted h quiet 0 → Open made jac accepted h true other 0
  ends {quiet} w =
      let here-open : Open made jac accepted h false quiet 0 = asks w in
      record { most = here-open.most; once = here-open.once; going = λ e. absurd (true≢false e) }

  ends-failing : {quiet : Bool} → Failing made jac accepted h → Open made jac accepted h true quiet 0
  ends-failing w = record {
    most = omega (arith, w.few, one-few made);
    once = omega (arith, w.flag, one-few made);
    going = λ e. absurd (true≢false e);
  }

  -- past a report
  heads : {wish : Bool} → Going made jac accepted h true 0 → Heading made jac accepted h wish
  heads w =
      record {
        flag = omega (arith, w.flag);
        few = w.few;
        again = λ e. absurd (true≢false (sym e ∙ (w.none refl).1));
        first = λ _. (w.none refl).0;
      }

  -- the host has put the run at another point
  moved : {quiet : Bool} → Going made jac accepted h true 0 → Going false jac accepted h quiet 0
  unfolding pick
  moved w =
      let off = (w.none refl).0 in
      record {
        flag = sym (ap one off) ∙ w.flag;
        few = omega (arith, w.few, ap one off);
        none = λ _. (refl, (w.none refl).1);
        again = λ e. absurd (true≢false (sym e ∙ (w.none refl).1));
      }

  -- a Jacobian is wanted: none was made here
  wanted : {wish : Bool} → Heading made jac accepted h wish → wish ≡ true → Going true (jac + 1) accepted h false 1
  unfolding pick
  wanted w on =
      let off : made ≡ false = by h.failed refl in
      record {
        flag = omega (arith, w.flag, ap one off);
        few = omega (arith, w.few, ap one off);
        none = λ e. absurd (false≢true e);
        again = λ _. refl;
      }
    where
      by : (b : Bool) → h.failed ≡ b → made ≡ false
      by true e = denied made (sym on ∙ w.again e)
      by false e = w.first e

  -- none is wanted: after a failure there is one of this point
  kept : {wish : Bool} → Heading made jac accepted h wish → wish ≡ false → Going made jac accepted h false 0
  kept w off =
      record {
        flag = omega (arith, w.flag);
        few = w.few;
        none = λ e. absurd (false≢true e);
        again = λ e. granted made (sym off ∙ w.again e);
      }

  fails : {quiet : Bool} → Going made jac accepted h quiet 0 → Failing made jac accepted (here h.jacobians true)
  fails w = record { flag = omega (arith, w.flag); few = w.few; failed = refl }

  misses : {wish : Bool} → Failing made jac accepted h → wish ≡ not made → Heading made jac accepted h wish
  misses w e =
      record {
        flag = w.flag;
        few = w.few;
        again = λ _. e;
        first = λ f. absurd (true≢false (sym w.failed ∙ f));
      }

  accept : Going made jac accepted h false 0 → Going false jac (accepted + 1) new_point true 0
  unfolding pick
  accept w =
      record {
        flag = refl;
        few = omega (arith, w.few, one-few made);
        none = λ _. (refl, refl);
        again = λ e. absurd (false≢true e);
      }

  -- a request is answered; the host moves the point only where nothing was asked at it
  answers : {quiet : Bool} {more : ℕ} (b : Bool) → (b ≡ true → quiet ≡ true) → Going made jac accepted h quiet more
      → Going made jac accepted (pick b new_point (here (h.jacobians + more) h.failed)) quiet 0
  unfolding pick
  answers true still w =
      record {
        flag = ap one (w.none (still refl)).0;
        few = w.few;
        none = λ e. ((w.none e).0, refl);
        again = λ e. absurd (false≢true e);
      }
  answers false still w =
      record { flag = omega (arith, w.flag); few = w.few; none = w.none; again = w.again }

-- ---- one block of events after another

past-append : (es fs : List Event) (h : Here) → here_events (es ++ fs) h ≡ here_events fs (here_events es h)
unfolding here_events
past-append [] fs h = refl
past-append (e ∷ es) fs h = past-append es fs (here_event e h)

-- ---- the rules

module _ (p : Reply) (mass jac : List Float) (h₀ : Here) where
  pub fresh-closed : Closed p mass jac (FreshAt h₀)
  unfolding FreshAt here_events here_event asking_at quiet_at is_jac asks_at pick
  fresh-closed =
      record {
        first-filled = λ w b. asks (w b);
        first-report = λ w b. w b;
        later-report = λ w b. w b;
        interrupted = λ e w b. ends (w b);
        modified = λ x e w b. asks (moved (w b));
        first-told = λ mark e _ w b. heads (w b);
        later-told = λ mark e _ w b. w b;
        first-again = λ w b. heads (w b);
        later-again = λ w b. w b;
        success = λ e w b. ends (w b);
        aims = λ {es} hnew hhfac jac e _ w. rw (past-append es _ h₀) (λ b. heads (w b));
        onward = λ {es} hnew h hhfac decomp jac e _ w. rw (past-append es _ h₀) (λ b. heads (w b));
        host-asked = λ j e w b. asks (wanted (w b) j);
        origin-asked = λ j e w b. asks (wanted (w b) j);
        jacobian-kept = λ j w b. kept (w b) j;
        host-filled = λ w b. w b;
        origin-filled = λ w b. asks (w b);
        column-filled = λ c l w b. asks (w b);
        columns-filled = λ c l w b. w b;
        matrices-kept = λ d w b. w b;
        real-stopped = λ {es} f k _ _ w. rw (past-append es _ h₀) (λ b. fails (w b));
        complex-stopped = λ {es} f k _ _ _ w. rw (past-append es _ h₀) (λ b. fails (w b));
        decomposed = λ {es} f _ _ _ w. rw (past-append es _ h₀) w;
        sixth = λ more w b. ends-failing (w b);
        another = λ h hhfac l w b. misses (w b) (wished _ _ b);
        limited = λ {es} l w. rw (past-append es _ h₀) (λ b. ends (w b));
        shortened = λ {es} l _ w. rw (past-append es _ h₀) (λ b. ends (w b));
        begins = λ {es} faccon theta x l _ w. rw (past-append es _ h₀) (λ b. asks (w b));
        first-stage = λ x w b. asks (w b);
        second-stage = λ x w b. asks (w b);
        not-near = λ theta thqold faccon dynold w. w;
        near = λ theta thqold faccon dynold w. w;
        diverges = λ {es} theta thqold faccon dynold e w. rw (past-append es _ h₀) (λ b. fails (w b));
        slow-rust =
            λ {es} theta thqold faccon dynold dyth h hhfac e l w. rw (past-append es _ h₀) (λ b. not-book e b);
        slow-book =
            λ {es} theta thqold faccon dynold dyth h hhfac e l w.
            rw (past-append es _ h₀) (λ b. misses (fails (w b)) (wished _ _ b));
        used-up = λ {es} l w. rw (past-append es _ h₀) (λ b. fails (w b));
        another-round = λ x l w b. asks (w b);
        refines = λ {es} w. rw (past-append es _ h₀) (λ b. asks (w b));
        estimated = λ {es} w. rw (past-append es _ h₀) w;
        refined = λ w. w;
        accepts = λ {es} err hnew hacc erracc e w. rw (past-append es _ h₀) (λ b. asks (accept (w b)));
        fails-first =
            λ {es} err hnew h hhfac e f w.
            rw (past-append es _ h₀) (λ b. misses (fails (w b)) (wished _ _ b));
        fails-later =
            λ {es} err hnew h hhfac e f w.
            rw (past-append es _ h₀) (λ b. misses (fails (w b)) (wished _ _ b));
        accepted-filled = λ offered w b. asks (w b);
      }

  pub fresh-end : (es : List Event) (c : Call) → FreshAt h₀ es (asked c) → c.run.settings.rule ≡ rule.Book
      → OpenAt c.run c.request c.place (here_events es h₀)
  unfolding FreshAt
  fresh-end es c w b = w b

-- ---- from a request to where it is answered

-- a point is modified at a report only
moves-report : (a : Reply) → moves a ≡ true → answers_report a ≡ true
unfolding moves answers_report
moves-report reply.Filled e = e
moves-report reply.Continue e = refl
moves-report reply.Interrupt e = refl
moves-report (reply.Modified x) e = refl
moves-report (reply.Mark x) e = refl

-- where nothing was asked yet
report-quiet : (s : Stage) → (asking_at s).report ≡ true → quiet_at s ≡ true
unfolding asking_at quiet_at
report-quiet stage.FirstDerivative e = refl
report-quiet stage.FirstReport e = refl
report-quiet stage.FirstDerivativeAgain e = refl
report-quiet stage.Jacobian e = e
report-quiet (stage.Column c) e = e
report-quiet stage.Newton1 e = e
report-quiet stage.Newton2 e = e
report-quiet stage.Newton3 e = e
report-quiet stage.Refinement e = e
report-quiet stage.Accepted e = refl
report-quiet stage.Report e = refl
report-quiet stage.DerivativeAgain e = refl
report-quiet (stage.Ended s) e = e

pub fresh_start : (r : Run) (q : Request) (w : Place) (a : Reply) (h : Here) → (asking_at r.stage).ended ≡ false
    → answers_report a ≡ (asking_at r.stage).report → OpenAt r q w h
    → FreshAt (here_reply q w a h) [] (replied r.stage r)
unfolding FreshAt here_events
fresh_start r q w a h on kind g _ =
    answers (moves a) (λ e. report-quiet r.stage (sym kind ∙ moves-report a e)) (g.going on)
