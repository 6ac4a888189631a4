-- Every point of a journal is sound, and from that the account of a run: the proofs behind most of Theorems.antt, which
-- states them one by one, in the order of 00's demand 3 and of the promises here: counts, limits, statuses, landing,
-- events and ledger, after the end, and last that it ends.
use Prim.Native.Nat.{ℕ, zero, suc, ◌+◌, ◌*◌, ◌≤◌, ◌<◌}
use mathlib.Core.Path.{◌≡◌, refl, sym, ap, ap₂, ◌∙◌, subst}
use mathlib.Core.Bool.{Bool, true, false, true≢false, ◌&&◌, ◌||◌}
use mathlib.Core.List.{List, [], ◌∷◌}
use mathlib.Core.Logic.{◌↔◌}
use native.Mathlib.Omega.{arith}
use native.Mathlib.Nat.{mul-le-mul_left}
use lib.Dec.{ltb, eqb}
use lib.ListN.{length}
use lib.Ieee.{Float}
use borrow.Author.Tests.{ltb-true, ltb-false, eq-eqb, ne_eqb, eqb-true, eqb-false}
use Rattle.words.specs.Words.{◌⊕◌, ◌⊖◌}
use Rattle.words.specs.Loop.{pick}
use Rattle.state.specs.declared.settings.Settings.{Settings}
use Rattle.state.specs.declared.run.Counts.{Counts}
use Rattle.state.specs.declared.run.Notes.{Notes}
use Rattle.state.specs.declared.run.Run.{Run}
use Rattle.state.specs.declared.run.Stage.{Stage}
use Rattle.state.specs.declared.run.Stage.TheVariants as stage
use Rattle.state.specs.declared.run.Status.{Status}
use Rattle.state.specs.declared.run.Status.TheVariants as status
use Rattle.state.specs.declared.talk.Place.{Place}
use Rattle.state.specs.declared.talk.Request.{Request}
use Rattle.state.specs.declared.talk.Request.TheVariants as request
use Rattle.state.specs.Numbers.{status_number, smallest_stride, largest_stride}
use Rattle.opening.specs.Rows.{Opening, opening_rows}
use Rattle.opening.specs.Opening.{open_of}
use Rattle.opening.specs.Admission.{asking_at}
use Rattle.opening.proofs.RowLaws.{NoneHolds}
use Rattle.solve_blocks.specs.Setters.{counts}
use Rattle.state.specs.Talk.{call}
use Rattle.solve_blocks.specs.Advance.{advance_by}
use Rattle.history.specs.Host.{is_end, Action}
use Rattle.history.specs.History.{next_point}
use Rattle.account.specs.Journal.{Fair, Turn, Journal, next, FairFrom, after, Starts, JournalOf}
use Rattle.account.specs.Reading.{one, many, Question, questions, asked_in, is_report, first_stage, says, same_status}
use Rattle.account.specs.Reading.{standing_at, interrupted_in, counts_of, happened, Means, width, most_requests}
use Rattle.account.specs.Truth.{EventsTrue}
use Rattle.account.specs.Latest.{LatestKept}
use Rattle.account.specs.Strides.{steps_of, strides_of, notes_of, StridesKept}
use Rattle.account.specs.Account.{Strategy, played, FairHost, Answered}
use Rattle.account.specs.Account.{EndsWithin, Over, Limits, Ends, Lands, Ledger}
use Rattle.account.proofs.Matches.{Matches, by-stage, matches-report, matches-end, matches-ended, ended-matches}
use Rattle.account.proofs.Flow.{owed, ends_with}
use Rattle.account.proofs.StandingKept.{Stands, marks_of, end_marks}
use Rattle.account.proofs.Bounds.{WithinAt, Ceilings, bounds-fit, bounds-ended}
use Rattle.account.proofs.SuccessLands.{lands-report}
use Rattle.account.proofs.NoteLaws.{latest-true, smallest-told, largest-told}
use Rattle.account.proofs.SuccessLands as landed
use Rattle.account.proofs.Admits.{ended-refuses}
use Rattle.account.proofs.FirstPoint.{opens}
use Rattle.account.proofs.Advance.{advanced, next-is}
use Rattle.account.proofs.Sound.{Held, bounded, passes, held_next, held_first}
use Rattle.account.proofs.Tally.{Tallied, open-ends, tallied-next, tallied-first}

-- ---- every point of a journal is sound

pub record Sound (o : Opening) (j : Journal) : Type 0 where
  pub none : NoneHolds (opening_rows o)
  pub held : Held o j.point
  pub tallied : Tallied o j

pub sound-first : (o : Opening) (j : Journal) → Starts (open_of o) j → Sound o j
unfolding Starts
sound-first o j s =
    let p = opens o j s in
    record { none = p.none; held = held_first o j.point p; tallied = tallied-first o j p s.2 }

module _ (o : Opening) (j : Journal) (a : Action) (s : Sound o j) (fair : Fair j.point a) where
  next-same : next j a ≡ advanced j a
  next-same = next-is j a (passes o s.none j a s.held fair)

  pub sound-next : Sound o (next j a)
  sound-next =
      subst (Sound o) (sym next-same)
      (record {
        none = s.none;
        held = held_next o s.none j a s.held fair;
        tallied = tallied-next o s.none j a s.held s.tallied fair;
      })

  -- the advance is answered
  pub answered : Answered j a
  unfolding next advance_by next_point
  answered = rw (passes o s.none j a s.held fair) refl

sound-after : (o : Opening) (j : Journal) (acts : List Action) → Sound o j → FairFrom j acts → Sound o (after j acts)
unfolding FairFrom after
sound-after o j [] s f = s
sound-after o j (a ∷ acts) s f = sound-after o (next j a) acts (sound-next o j a s f.0) f.1

pub sound : (o : Opening) (j : Journal) → JournalOf o j → Sound o j
sound o j w =
    subst (Sound o) (sym w.is) (sound-after o w.first w.acts (sound-first o w.first w.starts) w.fair)

-- ---- 2. counts

none-owed : (s : Stage) → ((asking_at s).report || (asking_at s).ended) ≡ true → owed s ≡ 0
unfolding asking_at owed
none-owed stage.FirstDerivative e = absurd (true≢false (sym e))
none-owed stage.FirstReport e = refl
none-owed stage.FirstDerivativeAgain e = refl
none-owed stage.Jacobian e = refl
none-owed (stage.Column c) e = refl
none-owed stage.Newton1 e = refl
none-owed stage.Newton2 e = refl
none-owed stage.Newton3 e = refl
none-owed stage.Refinement e = refl
none-owed stage.Accepted e = absurd (true≢false (sym e))
none-owed stage.Report e = refl
none-owed stage.DerivativeAgain e = refl
none-owed (stage.Ended t) e = refl

counts-are : (c d : Counts) → c.ode ≡ d.ode → c.jac ≡ d.jac → c.lu ≡ d.lu → c.total ≡ d.total
    → c.accepted ≡ d.accepted → c.rejected ≡ d.rejected → c ≡ d
counts-are c d a b e f g h =
    ap (λ (k : ℕ). counts k c.jac c.lu c.total c.accepted c.rejected) a
    ∙ ap (λ (k : ℕ). counts d.ode k c.lu c.total c.accepted c.rejected) b
    ∙ ap (λ (k : ℕ). counts d.ode d.jac k c.total c.accepted c.rejected) e
    ∙ ap (λ (k : ℕ). counts d.ode d.jac d.lu k c.accepted c.rejected) f
    ∙ ap (λ (k : ℕ). counts d.ode d.jac d.lu d.total k c.rejected) g
    ∙ ap (λ (k : ℕ). counts d.ode d.jac d.lu d.total d.accepted k) h

pub sound-counts : (o : Opening) (j : Journal) → Sound o j → j.point.run.counts ≡ counts_of j
sound-counts o j s =
    let t = s.tallied in
    counts-are j.point.run.counts (counts_of j) t.ode t.jac t.lu t.total t.accepted t.rejected

module _ (o : Opening) (j : Journal) (w : JournalOf o j) where
  pub counts-told-proof : j.point.run.counts ≡ counts_of j
  counts-told-proof = sound-counts o j (sound o j w)

  pub attempts-told-proof : many first_stage (questions j)
      + one (ends_with status.NeedLargerNMax j.point.request)
      + one (ends_with status.StepSizeTooSmall j.point.request)
      ≡ j.point.run.counts.total
  attempts-told-proof = let t = (sound o j w).tallied in t.attempts-asked ∙ sym t.total

  -- no report is owed at a report, nor at the end
  pub reports-told-proof : (is_report j.point.request || is_end j.point.request) ≡ true
      → many (λ (q : Question). one (is_report q.request)) (questions j) ≡ j.point.run.counts.accepted + 1
  reports-told-proof e =
      let s = sound o j w in
      let t = s.tallied in
      let m = s.held.matches in
      omega (
        arith,
        t.reports-asked,
        t.accepted,
        none-owed j.point.run.stage (sym (ap₂ ◌||◌ (matches-report m) (matches-end m)) ∙ e),
      )

-- ---- 3. limits

module _ (r : Run) (q : Request) (p : Place) where
  -- under the ceilings it is the attempts that decide
  limits-by : Ceilings r
      → r.counts.total ≤ r.settings.max_steps + 1
      → (q ≡ request.Ended status.NeedLargerNMax) ↔ (r.counts.total ≡ r.settings.max_steps + 1)
      → Limits r.settings r.counts q
  limits-by c total limit = record {
    ode = c.ode;
    jac = c.jac;
    lu = c.lu;
    total = total;
    accepted = c.accepted;
    rejected = c.rejected;
    limit = limit;
    book = c.judged;
  }

  running-limits : (s : Stage) → (asking_at s).ended ≡ false → WithinAt s r → Matches s q p
      → Limits r.settings r.counts q
  unfolding is_end
  running-limits s e w m =
      let f = bounds-fit s r e w in
      limits-by f.ceilings (omega (arith, f.total)) (
        λ is. absurd (true≢false (not-ended is)),
        λ over. absurd (omega (arith, f.total, over)),
      )
    where
      not-ended : q ≡ request.Ended status.NeedLargerNMax → true ≡ false
      not-ended is = sym (ap is_end is) ∙ matches-end m ∙ e

  ended-limits : (t : Status) → WithinAt (stage.Ended t) r → Matches (stage.Ended t) q p
      → Limits r.settings r.counts q
  ended-limits t w m =
      let f = bounds-ended t r w in
      limits-by f.ceilings f.total (
        λ is. f.limited
            (let same : request.Ended t ≡ request.Ended status.NeedLargerNMax = sym (matches-ended m) ∙ is in cc),
        λ over. matches-ended m ∙ ap request.Ended (f.only over),
      )

sound-limits : (o : Opening) (j : Journal) → Sound o j
    → Limits o.settings j.point.run.counts j.point.request
sound-limits o j s =
    let h = s.held in
    let r = j.point.run in
    subst (λ (s : Settings). Limits s r.counts j.point.request) h.settings
    (by-stage (λ (s : Stage). WithinAt s r → Matches s j.point.request j.point.place
    → Limits r.settings r.counts j.point.request)
    (running-limits r j.point.request j.point.place) (ended-limits r j.point.request j.point.place)
    r.stage h.within h.matches)

pub limits-proof : (o : Opening) (j : Journal) → JournalOf o j
    → Limits o.settings j.point.run.counts j.point.request
limits-proof o j w = sound-limits o j (sound o j w)

-- ---- 4. statuses

module _ (s : Status) (ts : List Turn) where
  -- what the journal of a run that ended with s says
  record Told : Type 0 where
    landed : (standing_at ts).landed ≡ (end_marks s).well
    interrupt : interrupted_in ts ≡ same_status status.UserInterrupt s
    over : happened (λ (e : Means). e.over) ts ≡ one (same_status status.NeedLargerNMax s)
    small : happened (λ (e : Means). e.small) ts ≡ one (same_status status.StepSizeTooSmall s)
    singular : eqb (standing_at ts).failures 6 ≡ (end_marks s).singular

-- the marks that stand for a status
marks-are : (s : Status)
    → ((end_marks s).well ≡ same_status s status.Success) ×
    ((end_marks s).singular ≡ same_status s status.SingularMatrix)
unfolding end_marks
marks-are status.Success = (refl, refl)
marks-are status.UserInterrupt = (refl, refl)
marks-are status.NeedLargerNMax = (refl, refl)
marks-are status.StepSizeTooSmall = (refl, refl)
marks-are status.SingularMatrix = (refl, refl)

same-either : (a b : ℕ) (c : Bool) → eqb a b ≡ c → c ≡ eqb b a
same-either a b true e = sym (eq-eqb b a (sym (eqb-true a b e)))
same-either a b false e = sym (ne_eqb b a (λ d. eqb-false a b e (sym d)))

same_back : (s t : Status) → same_status s t ≡ same_status t s
same_back s t = same-either (status_number s) (status_number t) (same_status s t) refl

counted-once : (b : Bool) → ltb 0 (one b) ≡ b
unfolding pick
counted-once true = refl
counted-once false = refl

says_so : (s t : Status) (ts : List Turn) → Told s ts → says t ts ≡ same_status s t
unfolding says
says_so s status.Success ts e = e.landed ∙ (marks-are s).0
says_so s status.UserInterrupt ts e = e.interrupt ∙ same_back status.UserInterrupt s
says_so s status.NeedLargerNMax ts e =
    ap (ltb 0) e.over ∙ counted-once (same_status status.NeedLargerNMax s) ∙ same_back status.NeedLargerNMax s
says_so s status.StepSizeTooSmall ts e =
    ap (ltb 0) e.small ∙ counted-once (same_status status.StepSizeTooSmall s) ∙ same_back status.StepSizeTooSmall s
says_so s status.SingularMatrix ts e = e.singular ∙ (marks-are s).1

none-again : (s : Status) (last : Bool) → ((end_marks s).again && last || (end_marks s).well) ≡ (end_marks s).well
unfolding end_marks
none-again status.Success last = refl
none-again status.UserInterrupt last = refl
none-again status.NeedLargerNMax last = refl
none-again status.StepSizeTooSmall last = refl
none-again status.SingularMatrix last = refl

pub statuses-proof : (o : Opening) (j : Journal) → JournalOf o j → Ends j
unfolding ends_with marks_of
statuses-proof o j w s t e =
    let k = sound o j w in
    let y = k.tallied in
    let at : j.point.run.stage
    ≡ stage.Ended s =
    ended-matches (subst (λ (q : Request). Matches j.point.run.stage q j.point.place) e k.held.matches) in
    let st = subst (λ (g : Stage). Stands g j.point.run (standing_at j.turns)) at y.stands in
    says_so s t j.turns
    (record {
      landed = st.landed ∙ none-again s j.point.run.control.last;
      interrupt = y.interrupt ∙ ap (ends_with status.UserInterrupt) e;
      over = y.over ∙ ap (λ (q : Request). one (ends_with status.NeedLargerNMax q)) e;
      small = y.small ∙ ap (λ (q : Request). one (ends_with status.StepSizeTooSmall q)) e;
      singular = st.singular;
    })

-- 0 exactly when an aimed attempt was accepted and its report not interrupted, of a run that has ended
pub success-exactly-proof : (o : Opening) (j : Journal) → JournalOf o j
    → (j.point.request ≡ request.Ended status.Success)
    ↔ ((is_end j.point.request ≡ true) × ((standing_at j.turns).landed ≡ true))
unfolding says is_end
success-exactly-proof o j w = (
  λ e. (ap is_end e, statuses-proof o j w status.Success status.Success e),
  λ h. by-request j.point.request refl h.0 h.1,
)
  where
    only : (s : Status) → same_status s status.Success ≡ true → s ≡ status.Success
    only status.Success e = refl
    only status.UserInterrupt e = absurd (true≢false (sym e))
    only status.NeedLargerNMax e = absurd (true≢false (sym e))
    only status.StepSizeTooSmall e = absurd (true≢false (sym e))
    only status.SingularMatrix e = absurd (true≢false (sym e))

    by-request : (q : Request) → j.point.request ≡ q → is_end q ≡ true → (standing_at j.turns).landed ≡ true
        → q ≡ request.Ended status.Success
    by-request (request.Derivative x) e h l = absurd (true≢false (sym h))
    by-request (request.Jacobian x) e h l = absurd (true≢false (sym h))
    by-request (request.Report xold x offered) e h l = absurd (true≢false (sym h))
    by-request (request.Ended s) e h l =
        ap request.Ended (only s (sym (statuses-proof o j w s status.Success e) ∙ l))

-- before the end no condition of 1, 2, 3 and 5 holds
not-singular : (s : Stage) → (asking_at s).ended ≡ false → (marks_of s).singular ≡ false
unfolding asking_at marks_of
not-singular stage.FirstDerivative e = refl
not-singular stage.FirstReport e = refl
not-singular stage.FirstDerivativeAgain e = refl
not-singular stage.Jacobian e = refl
not-singular (stage.Column c) e = refl
not-singular stage.Newton1 e = refl
not-singular stage.Newton2 e = refl
not-singular stage.Newton3 e = refl
not-singular stage.Refinement e = refl
not-singular stage.Accepted e = refl
not-singular stage.Report e = refl
not-singular stage.DerivativeAgain e = refl
not-singular (stage.Ended t) e = absurd (true≢false e)

pub not-yet-proof : (o : Opening) (j : Journal) → JournalOf o j → is_end j.point.request ≡ false
    → (t : Status) → same_status t status.Success ≡ false → says t j.turns ≡ false
unfolding says pick
not-yet-proof o j w running status.Success e = absurd (true≢false e)
not-yet-proof o j w running status.UserInterrupt e =
    (sound o j w).tallied.interrupt ∙ open-ends status.UserInterrupt j.point.request running
not-yet-proof o j w running status.NeedLargerNMax e =
    ap (ltb 0) ((sound o j w).tallied.over ∙ ap one (open-ends status.NeedLargerNMax j.point.request running))
not-yet-proof o j w running status.StepSizeTooSmall e =
    ap (ltb 0) ((sound o j w).tallied.small ∙ ap one (open-ends status.StepSizeTooSmall j.point.request running))
not-yet-proof o j w running status.SingularMatrix e =
    let k = sound o j w in
    k.tallied.stands.singular ∙ not-singular j.point.run.stage (sym (matches-end k.held.matches) ∙ running)

-- ---- 5. landing

report-stage : (s : Stage) (last : Bool) → (asking_at s).report ≡ true → ((marks_of s).awaits && last) ≡ true
    → (s ≡ stage.Report) × (last ≡ true)
unfolding asking_at marks_of
report-stage stage.FirstDerivative last e a = absurd (true≢false (sym e))
report-stage stage.FirstReport last e a = absurd (true≢false (sym a))
report-stage stage.FirstDerivativeAgain last e a = absurd (true≢false (sym e))
report-stage stage.Jacobian last e a = absurd (true≢false (sym e))
report-stage (stage.Column c) last e a = absurd (true≢false (sym e))
report-stage stage.Newton1 last e a = absurd (true≢false (sym e))
report-stage stage.Newton2 last e a = absurd (true≢false (sym e))
report-stage stage.Newton3 last e a = absurd (true≢false (sym e))
report-stage stage.Refinement last e a = absurd (true≢false (sym e))
report-stage stage.Accepted last e a = absurd (true≢false (sym e))
report-stage stage.Report last e a = (refl, a)
report-stage stage.DerivativeAgain last e a = absurd (true≢false (sym e))
report-stage (stage.Ended t) last e a = absurd (true≢false (sym e))

pub success-lands-proof : (o : Opening) (j : Journal) → JournalOf o j → Lands o j
unfolding is_report landed.Lands
success-lands-proof o j w xold x offered e awaited =
    let k = sound o j w in
    let h = k.held in
    let r = j.point.run in
    let at = report-stage r.stage r.control.last (sym (matches-report h.matches) ∙ ap is_report e)
    (sym k.tallied.stands.awaited ∙ awaited) in
    lands-report [] (call r j.point.request j.point.place) xold x offered
    (h.lands, h.reports) at.0 at.1 e
    ∙ ap (λ (v : Float). xold ⊕ (v ⊖ xold)) h.xend

-- ---- events

pub events-true-proof : (o : Opening) (j : Journal) → JournalOf o j → EventsTrue o j
events-true-proof o j w = (sound o j w).tallied.truths

pub latest-kept-proof : (o : Opening) (j : Journal) → JournalOf o j → LatestKept o j
latest-kept-proof o j w =
    let t = (sound o j w).tallied in
    record {
      kept = ap (λ (n : Notes). n.singular) t.notes;
      pass = latest-true o j.point.memory j.turns t.truths;
    }

pub notes-kept-proof : (o : Opening) (j : Journal) → JournalOf o j → j.point.run.notes ≡ notes_of j
notes-kept-proof o j w = (sound o j w).tallied.notes

pub strides-kept-proof : (o : Opening) (j : Journal) → JournalOf o j → StridesKept j
strides-kept-proof o j w =
    let are = ap (λ (n : Notes). n.strides) (notes-kept-proof o j w) in
    record {
      kept = are;
      smallest = ap smallest_stride are ∙ smallest-told (strides_of (steps_of j));
      largest = ap largest_stride are ∙ largest-told (strides_of (steps_of j));
    }

-- ---- the ledger

pub ledger-proof : (o : Opening) (j : Journal) → JournalOf o j → Ledger o.settings.rule j
ledger-proof o j w = (sound o j w).tallied.ledger

-- ---- after the end

ended-ceilings : (r : Run) (t : Status) → (asking_at (stage.Ended t)).ended ≡ true → WithinAt (stage.Ended t) r
    → Ceilings r × ((asking_at (stage.Ended t)).column ≡ 0)
unfolding asking_at
ended-ceilings r t e w = ((bounds-ended t r w).ceilings, refl)

pub over-proof : (o : Opening) (j : Journal) → JournalOf o j → is_end j.point.request ≡ true → Over j
unfolding advance_by
over-proof o j w e p =
    let k = sound o j w in
    let h = k.held in
    let r = j.point.run in
    let ended : (asking_at r.stage).ended ≡ true = sym (matches-end h.matches) ∙ e in
    let b = by-stage (λ (s : Stage). (asking_at s).ended ≡ true → WithinAt s r → Ceilings r ×
    ((asking_at s).column ≡ 0))
    (λ s on off. absurd (true≢false (sym off ∙ on))) (ended-ceilings r) r.stage ended h.within in
    rw (ended-refuses r j.point.memory (bounded o k.none j.point j.point.memory h h.long refl b.0
    (omega (arith, b.1)) (λ on. absurd (true≢false (sym ended ∙ on))))
    p ended)
    refl

-- ---- 1. it ends

asked-length : (ts : List Turn) → length (asked_in ts) ≡ length ts
unfolding asked_in
asked-length [] = refl
asked-length (t ∷ ts) = ap suc (asked-length ts)

pub most : Opening → ℕ
most o = most_requests o.settings.source o.n o.settings.max_steps o.settings.newton_maxiter

one-few : (b : Bool) → one b ≤ 1
unfolding pick
one-few true = omega arith
one-few false = omega arith

-- what holds below k, and at k, holds below k + 1
below-suc-last : (P : ℕ → Type 0) (k : ℕ) → ((i : ℕ) → i < k → P i) → P k → (i : ℕ) → i < suc k → P i
below-suc-last P k all last i l = by (ltb i k) refl
  where
    by : (b : Bool) → ltb i k ≡ b → P i
    by true e = all i (ltb-true i k e)
    by false e = let same : k ≡ i = omega (arith, l, ltb-false i k e) in subst P same last

-- the requests of a sound journal
pub few-requests : (o : Opening) (j : Journal) → Sound o j → length j.turns + 1 ≤ most o
unfolding most
few-requests o j s =
    let t = s.tallied in
    let b = sound-limits o j s in
    let columns : width o.settings.source o.n * (counts_of j).jac
    ≤ width o.settings.source o.n * (6 * (o.settings.max_steps + 1)) =
    mul-le-mul_left (width o.settings.source o.n) (omega (arith, b.jac, t.jac)) in
    omega (
      arith,
      t.requests-asked,
      asked-length j.turns,
      t.ode,
      b.ode,
      t.columns-asked,
      columns,
      t.reports-asked,
      t.accepted,
      b.accepted,
      one-few (is_end j.point.request),
    )

pub turns-played : (h : Strategy) (j : Journal) (k : ℕ) → length (played h j k).turns ≡ k + length j.turns
unfolding played next
turns-played h j zero = omega arith
turns-played h j (suc k) = omega (arith, turns-played h j k)

module _ (o : Opening) (j : Journal) (starts : Starts (open_of o) j) (h : Strategy) (fair : FairHost h j) where
  -- up to an advance before which no end was met
  sound-played : (k : ℕ) → ((i : ℕ) → i < k → is_end (played h j i).point.request ≡ false) → Sound o (played h j k)
  unfolding played
  sound-played zero going = sound-first o j starts
  sound-played (suc k) going =
      sound-next o (played h j k) (h (played h j k)) (sound-played k (λ i l. going i (omega arith)))
      (fair k (going k (omega arith)))

  abbrev Going : ℕ → Type 0
  Going k = (i : ℕ) → i < k → is_end (played h j i).point.request ≡ false

  -- the end is met here, or the search goes on
  meet : (k : ℕ) → k < most o → Going k → (Going (suc k) → EndsWithin (most o) h j) → (b : Bool)
      → is_end (played h j k).point.request ≡ b → EndsWithin (most o) h j
  meet k few going later true ended =
      record {
        advances = k;
        few = few;
        going = going;
        answered =
            λ i l. answered o (played h j i) (h (played h j i))
            (sound-played i (λ m n. going m (omega (arith, l, n)))) (fair i (going i l));
        ended = ended;
      }
  meet k few going later false on =
      later (below-suc-last (λ (m : ℕ). is_end (played h j m).point.request ≡ false) k going on)

  search : (fuel k : ℕ) → fuel + k ≡ most o → Going k → EndsWithin (most o) h j
  search zero k e going =
      absurd (omega (arith, e, few-requests o (played h j k) (sound-played k going), turns-played h j k))
  search (suc fuel) k e going =
      meet k (omega (arith, e)) going (search fuel (suc k) (omega (arith, e)))
      (is_end (played h j k).point.request) refl

pub ends-proof : (o : Opening) (j : Journal) → Starts (open_of o) j → (h : Strategy) → FairHost h j
    → EndsWithin
    (most_requests o.settings.source o.n o.settings.max_steps o.settings.newton_maxiter) h j
unfolding most
ends-proof o j starts h fair =
    search o j starts h fair (most o) 0 (omega arith) (λ i l. absurd (omega (arith, l)))
