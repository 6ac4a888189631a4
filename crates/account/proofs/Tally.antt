-- The counts of a run are those of its journal, and its journal tells how it stands: carried from advance to advance.
use Prim.Native.Nat.{ℕ, zero, suc, ◌+◌, ◌*◌, ◌≤◌}
use mathlib.Core.Path.{◌≡◌, refl, sym, ap, ◌∙◌, subst}
use mathlib.Core.Bool.{Bool, true, false, true≢false, not, ◌&&◌, ◌||◌}
use mathlib.Core.List.{[]}
use native.Mathlib.Omega.{arith}
use lib.Dec.{eqb}
use lib.ListN.{length}
use Rattle.words.specs.Loop.{pick}
use Rattle.state.specs.declared.settings.Settings.{Settings}
use Rattle.state.specs.declared.run.Run.{Run}
use Rattle.state.specs.declared.run.Stage.{Stage}
use Rattle.state.specs.declared.run.Stage.TheVariants as stage
use Rattle.state.specs.declared.run.Status.{Status}
use Rattle.state.specs.declared.run.Status.TheVariants as status
use Rattle.state.specs.declared.talk.Place.{Place}
use Rattle.state.specs.declared.talk.Reply.{Reply}
use Rattle.state.specs.declared.talk.Reply.TheVariants as reply
use Rattle.state.specs.declared.talk.Request.{Request}
use Rattle.state.specs.declared.talk.Request.TheVariants as request
use Rattle.state.specs.Memory.{Given}
use Rattle.opening.specs.Rows.{Opening, opening_rows}
use Rattle.opening.specs.Admission.{asking_at}
use Rattle.opening.proofs.RowLaws.{NoneHolds}
use Rattle.solve_blocks.specs.Events.{Event, Logged}
use Rattle.solve_blocks.specs.Advance.{Called}
use Rattle.history.specs.Host.{is_end, Action}
use Rattle.account.specs.Journal.{of_kind, Fair, Journal}
use Rattle.solve_blocks.specs.Report.{is_interrupt}
use Rattle.account.specs.Reading.{one, many, Question, question, questions, asked_in, is_ode, is_jac, is_report}
use Rattle.account.specs.Reading.{Asks, asks_at, acceptances, first_stage, Means, means_of, happened, counts_of}
use Rattle.account.specs.Reading.{later_all, accepted_in, rejections, rejected_in, interrupted_in, width}
use Rattle.account.specs.Reading.{Standing, standing_at, past_events, past_reply}
use Rattle.account.specs.Reading.{Progress, progress_at, progress_events, progress_reply}
use Rattle.account.specs.Truth.{AllTrue, TrueIn, EventsTrue}
use Rattle.account.specs.Latest.{latest_events, latest_in, latest_of, kept_of}
use Rattle.account.specs.Strides.{step_events, steps_in, steps_of, strides_of, kept_strides, notes_of}
use Rattle.account.specs.Account.{Ledger}
use Rattle.solve_blocks.proofs.AdvanceWhole.{whole_of}
use Rattle.solve_blocks.proofs.Rules.{replied, asked}
use Rattle.account.proofs.Matches.{Kind, derivative, jacobian, report, ended, kind_of}
use Rattle.account.proofs.Matches.{kind_at, place_at, Matches, matches-report, matches-end}
use Rattle.account.proofs.Flow.{owed, left, in_jacobian, differs, ends_with}
use Rattle.account.proofs.Flow.{Flows, flow-closed, flow-start, flow-end}
use Rattle.account.proofs.StandingKept.{Stands, marks_of, past_answer, stands-start, stands-closed, stands-end}
use Rattle.account.proofs.EventsTrue.{Grounds, AskedAt, Where, TrueAt, true-closed}
use Rattle.account.proofs.EventsTrue.{true-end, replied-from, rounds-asked}
use Rattle.account.proofs.NoteLaws.{notes-closed}
use Rattle.account.proofs.Ledgers.{ledger-start, ledger-closed, ledger-end}
use Rattle.account.proofs.FirstPoint.{Opens, order-within}
use Rattle.account.proofs.Advance.{handed, advanced}
use Rattle.account.proofs.Sound.{Held, order_is, in-kind, kept, everywhere, counted}

-- ---- what is carried

pub record Tallied (o : Opening) (j : Journal) : Type 0 where
  pub ode : j.point.run.counts.ode ≡ (counts_of j).ode
  pub jac : j.point.run.counts.jac ≡ (counts_of j).jac
  pub lu : j.point.run.counts.lu ≡ (counts_of j).lu
  pub total : j.point.run.counts.total ≡ (counts_of j).total
  pub accepted : j.point.run.counts.accepted ≡ (counts_of j).accepted
  pub rejected : j.point.run.counts.rejected ≡ (counts_of j).rejected
  -- the events that are counted in the requests too
  pub acceptances-told : (counts_of j).accepted ≡ happened (λ (e : Means). e.accepted) j.turns
  pub attempts-asked : many first_stage (questions j) + one (ends_with status.NeedLargerNMax j.point.request)
      + one (ends_with status.StepSizeTooSmall j.point.request)
      ≡ (counts_of j).total
  pub reports-asked : many (λ (q : Question). one (is_report q.request)) (questions j) + owed j.point.run.stage
      ≡ (counts_of j).accepted + 1
  pub columns-asked : many (λ (q : Question). one (in_jacobian q.request q.place)) (questions j)
      + left o.n j.point.run.stage
      ≡ width o.settings.source o.n * (counts_of j).jac
  -- every request is one of four
  pub requests-asked : length (questions j)
      ≡ (counts_of j).ode + many (λ (q : Question). one (in_jacobian q.request q.place)) (questions j)
      + many (λ (q : Question). one (is_report q.request)) (questions j) + one (is_end j.point.request)
  -- how it ended, if it did
  pub over : happened (λ (e : Means). e.over) j.turns ≡ one (ends_with status.NeedLargerNMax j.point.request)
  pub small : happened (λ (e : Means). e.small) j.turns ≡ one (ends_with status.StepSizeTooSmall j.point.request)
  pub interrupt : interrupted_in j.turns ≡ ends_with status.UserInterrupt j.point.request
  pub stands : Stands j.point.run.stage j.point.run (standing_at j.turns)
  -- where the history says that the run stands, and that all of it is true and balanced
  pub after : not j.point.run.control.first ≡ accepted_in j.turns
  pub grounds : Grounds o j.point.run
  pub tries : j.point.run.counts.total ≡ (progress_at j.turns).attempts
  pub here : AskedAt o (standing_at j.turns) (progress_at j.turns) j.point.run.stage j.point.run
  pub truths : EventsTrue o j
  pub notes : j.point.run.notes ≡ notes_of j
  pub ledger : Ledger o.settings.rule j

-- ---- a request is of one kind

unfoldable is_derivative : Kind → Bool
is_derivative derivative = true
is_derivative jacobian = false
is_derivative report = false
is_derivative (ended s) = false

-- a stage that asks for a derivative names a place
no-derivative : {k : Kind} {A : Type 0} → derivative ≡ k → is_derivative k ≡ false → A
unfolding is_derivative
no-derivative e f = absurd (true≢false (ap is_derivative e ∙ f))

place-asked : (s : Stage) → derivative ≡ kind_at s → one (asks_at (place_at s)).ode + one (differs (place_at s)) ≡ 1
unfolding kind_at place_at asks_at differs pick is_derivative
place-asked stage.FirstDerivative e = refl
place-asked stage.FirstReport e = no-derivative e refl
place-asked stage.FirstDerivativeAgain e = refl
place-asked stage.Jacobian e = no-derivative e refl
place-asked (stage.Column zero) e = refl
place-asked (stage.Column (suc c)) e = refl
place-asked stage.Newton1 e = refl
place-asked stage.Newton2 e = refl
place-asked stage.Newton3 e = refl
place-asked stage.Refinement e = refl
place-asked stage.Accepted e = refl
place-asked stage.Report e = no-derivative e refl
place-asked stage.DerivativeAgain e = refl
place-asked (stage.Ended t) e = no-derivative e refl

one-kind : {s : Stage} {q : Request} {p : Place} → Matches s q p
    → one (is_ode q p) + one (in_jacobian q p) + one (is_report q) + one (is_end q) ≡ 1
unfolding kind_of is_ode in_jacobian is_report is_end pick
one-kind {s} {q} {p} m =
    ap (λ (p : Place). one (is_ode q p) + one (in_jacobian q p) + one (is_report q) + one (is_end q)) m.place
    ∙ by-request q m.kind
  where
    by-request : (q : Request) → kind_of q ≡ kind_at s
        → one (is_ode q (place_at s)) + one (in_jacobian q (place_at s)) + one (is_report q) + one (is_end q) ≡ 1
    by-request (request.Derivative x) e = omega (arith, place-asked s e)
    by-request (request.Jacobian x) e = refl
    by-request (request.Report xold x offered) e = refl
    by-request (request.Ended t) e = refl

-- no reply but one to a report interrupts
calm : (q : Request) (p : Reply) → of_kind q p ≡ true → is_report q ≡ false → is_interrupt p ≡ false
unfolding of_kind is_report is_interrupt
calm q reply.Filled k r = refl
calm q reply.Continue k r = refl
calm (request.Derivative x) reply.Interrupt k r = sym k
calm (request.Jacobian x) reply.Interrupt k r = sym k
calm (request.Report xold x offered) reply.Interrupt k r = r
calm (request.Ended s) reply.Interrupt k r = sym k
calm q (reply.Modified x) k r = refl
calm q (reply.Mark x) k r = refl

-- a request that asks for something ends with no status
pub open-ends : (s : Status) (q : Request) → is_end q ≡ false → ends_with s q ≡ false
unfolding is_end ends_with
open-ends s (request.Derivative x) e = refl
open-ends s (request.Jacobian x) e = refl
open-ends s (request.Report xold x offered) e = refl
open-ends s (request.Ended u) e = absurd (true≢false e)

-- a reply begins no attempt
reply-attempts : (q : Request) (at : Place) (p : Reply) (g : Progress) → (progress_reply q at p g).attempts ≡ g.attempts
unfolding progress_reply
reply-attempts (request.Derivative x) at p g = refl
reply-attempts (request.Jacobian x) at p g = refl
reply-attempts (request.Report xold x offered) at p g = refl
reply-attempts (request.Ended s) at p g = refl

-- columns asked and to ask are those of the Jacobians begun
columns-more : (w x y u v i k : ℕ) → y + u ≡ w * k → x + v ≡ u + w * i → x + y + v ≡ w * (i + k)
columns-more w x y u v i k e f = omega (arith, e, f)

-- ---- one advance

module _ (o : Opening) (none : NoneHolds (opening_rows o)) (j : Journal) (a : Action) (h : Held o j.point)
    (t : Tallied o j) (fair : Fair j.point a) where
  abbrev r : Run
  r = j.point.run

  abbrev l : Logged Called
  l = whole_of r a.reply (handed j a)

  abbrev given : Given
  given = kept o none j a h fair

  some : 1 ≤ r.shape.n
  some = subst (λ (k : ℕ). 1 ≤ k) (sym (order_is o none j.point h)) (order-within o none).0

  flows : Flows r a.reply l.log l.core.call
  flows =
      flow-end r a.reply l.log l.core.call
      (everywhere o none j a h fair
      (flow-closed r a.reply given.mass given.jac some) (flow-start r a.reply))

  -- the request that was open asked for no end, and was a report where the stage says so
  was-report : is_report j.point.request ≡ (asking_at r.stage).report
  was-report = matches-report h.matches

  was-open : is_end j.point.request ≡ false
  was-open = matches-end h.matches ∙ (in-kind o none j a h fair).0

  not-over : (s : Status) → ends_with s j.point.request ≡ false
  not-over s = open-ends s j.point.request was-open

  none_over : (s : Status) → one (ends_with s j.point.request) ≡ 0
  unfolding pick
  none_over s = ap one (not-over s)

  no_end : one (is_end j.point.request) ≡ 0
  unfolding pick
  no_end = ap one was-open

  interrupts : (is_interrupt a.reply || interrupted_in j.turns)
      ≡ ends_with status.UserInterrupt l.core.call.request
  interrupts =
      ap (λ (b : Bool). is_interrupt a.reply || b) (t.interrupt ∙ not-over status.UserInterrupt)
      ∙ or-false (is_interrupt a.reply)
      ∙ only-report (asking_at r.stage).report
      (λ e. calm j.point.request a.reply fair.kind (was-report ∙ e))
      ∙ sym flows.interrupt
    where
      or-false : (b : Bool) → (b || false) ≡ b
      or-false true = refl
      or-false false = refl

      only-report : (b : Bool) → (b ≡ false → is_interrupt a.reply ≡ false)
          → is_interrupt a.reply ≡ (b && is_interrupt a.reply)
      only-report true e = refl
      only-report false e = e refl

  stands-next : Stands l.core.call.run.stage l.core.call.run (standing_at (advanced j a).turns)
  unfolding standing_at
  stands-next =
      let st = standing_at j.turns in
      let past = past_answer (asking_at r.stage).report a.reply st in
      let there = stands-end a.reply given.mass given.jac past l.log l.core.call
      (everywhere o none j a h fair (stands-closed a.reply given.mass given.jac past)
      (stands-start r a.reply st t.stands)) in
      subst (λ (b : Bool).
      Stands l.core.call.run.stage l.core.call.run (past_events l.log (past_answer b a.reply st)))
      (sym was-report) there

  -- the history past the reply
  abbrev st : Standing
  st = past_reply j.point.request a.reply (standing_at j.turns)

  abbrev g : Progress
  g = progress_reply j.point.request j.point.place a.reply (progress_at j.turns)

  true-here : TrueAt o l.core.memory a.reply st g [] (replied r.stage r)
  unfolding AllTrue Where past_events progress_events
  true-here =
      record {
        truth = tt;
        grounds = t.grounds;
        attempts =
            t.tries ∙ sym (reply-attempts j.point.request j.point.place a.reply (progress_at j.turns));
        stands =
            replied-from o a.reply (standing_at j.turns) (progress_at j.turns) r
            j.point.request j.point.place
            r.stage h.matches h.reports (in-kind o none j a h fair).0 t.here;
      }

  true-there : TrueAt o l.core.memory a.reply st g l.log (asked l.core.call)
  true-there = everywhere o none j a h fair (true-closed o l.core.memory a.reply st g) true-here

  here-next : AskedAt o (standing_at (advanced j a).turns) (progress_at (advanced j a).turns)
      l.core.call.run.stage l.core.call.run
  unfolding standing_at progress_at
  here-next = true-end o l.core.memory a.reply st g l.log l.core.call true-there

  truths-next : EventsTrue o (advanced j a)
  unfolding TrueIn
  truths-next = (true-there.truth, t.truths)

  notes-next : l.core.call.run.notes ≡ notes_of (advanced j a)
  unfolding latest_events latest_in step_events steps_in
  notes-next =
      everywhere o none j a h fair
      (notes-closed l.core.memory (latest_of j) (steps_of j) a.reply given.mass given.jac) t.notes

  tries-next : l.core.call.run.counts.total ≡ (progress_at (advanced j a).turns).attempts
  unfolding progress_at
  tries-next = true-there.attempts

  after_next : not l.core.call.run.control.first ≡ accepted_in (advanced j a).turns
  unfolding accepted_in
  after_next = (counted o none j a h fair).first ∙ ap (later_all l.log) t.after

  -- the run counts what it rejects by its flag, the journal by what was accepted before
  rejected-here : rejections (not r.control.first) l.log ≡ rejections (accepted_in j.turns) l.log
  rejected-here = ap (λ (b : Bool). rejections b l.log) t.after

  -- the place of the open request is that of its stage
  place-asks : (c : Asks → Bool) → one (c (asks_at j.point.place)) ≡ one (c (asks_at (place_at r.stage)))
  place-asks c = ap (λ (p : Place). one (c (asks_at p))) h.matches.place

  ledger-next : Ledger o.settings.rule (advanced j a)
  unfolding happened
  ledger-next =
      let k = ledger-end o.settings.rule r.stage l.log l.core.call
      (everywhere o none j a h fair (ledger-closed o.settings.rule r.stage a.reply given.mass given.jac)
      (ledger-start o.settings.rule r.stage r (ap (λ (s : Settings). s.rule) h.settings) refl)) in
      record {
        solves = omega (arith, t.ledger.solves, k.solves-even, place-asks (λ (q : Asks). q.refines));
        attempts = omega (arith, t.ledger.attempts, k.attempts-even, place-asks (λ (q : Asks). q.attempt));
      }

  -- the first stage of an attempt is told by the rounds of the history as by those of the run
  first-asked : first_stage
      (question l.core.call.request l.core.call.place (progress_at (advanced j a).turns).rounds)
      ≡ one ((asks_at l.core.call.place).z1 && eqb l.core.call.run.control.newt_iter 0)
  unfolding first_stage
  first-asked =
      ap one (same-where (asks_at l.core.call.place).z1
      (λ e. rounds-asked o _ _ l.core.call.run.stage l.core.call.run here-next
      (sym (ap (λ (p : Place). (asks_at p).z1) (counted o none j a h fair).matches.place) ∙ e)))
    where
      same-where : (b : Bool) {m n : ℕ} → (b ≡ true → m ≡ n) → (b && eqb m 0) ≡ (b && eqb n 0)
      same-where true e = ap (λ (k : ℕ). eqb k 0) (e refl)
      same-where false e = refl

  -- an acceptance is told by an event and by its request alike
  acceptance-asked : one ((asks_at l.core.call.place).f0 && not (is_report j.point.request))
      ≡ many (λ (e : Event). (means_of e).accepted) l.log
  acceptance-asked =
      ap (λ (b : Bool). one ((asks_at l.core.call.place).f0 && not b)) was-report ∙ flows.tallies.acceptance

  columns-here : one (in_jacobian l.core.call.request l.core.call.place)
      + left o.n l.core.call.run.stage
      ≡ left o.n r.stage
      + width o.settings.source o.n * one (is_jac l.core.call.request l.core.call.place)
  columns-here =
      subst (λ (n : ℕ). one (in_jacobian l.core.call.request l.core.call.place)
      + left n l.core.call.run.stage
      ≡ left n r.stage + width o.settings.source n * one (is_jac l.core.call.request l.core.call.place))
      (order_is o none j.point h)
      (subst (λ (s : Settings). one (in_jacobian l.core.call.request l.core.call.place)
      + left r.shape.n l.core.call.run.stage
      ≡ left r.shape.n r.stage
      + width s.source r.shape.n * one (is_jac l.core.call.request l.core.call.place))
      h.settings flows.tallies.columns)

  pub tallied-next : Tallied o (advanced j a)
  unfolding many happened rejected_in acceptances asked_in interrupted_in
  tallied-next =
      let c = counted o none j a h fair in
      let f = flows.tallies in
      let k = one-kind c.matches in
      record {
        ode = omega (arith, c.ode, t.ode);
        jac = omega (arith, c.jac, t.jac);
        lu = omega (arith, c.lu, t.lu);
        total = omega (arith, c.total, t.total);
        accepted = omega (arith, c.accepted, t.accepted, acceptance-asked);
        rejected = omega (arith, c.rejected, t.rejected, rejected-here);
        acceptances-told = omega (arith, t.acceptances-told, acceptance-asked);
        attempts-asked = omega (
          arith,
          t.attempts-asked,
          f.attempts,
          first-asked,
          none_over status.NeedLargerNMax,
          none_over status.StepSizeTooSmall,
        );
        reports-asked = omega (arith, t.reports-asked, f.reports, acceptance-asked);
        columns-asked = columns-more (width o.settings.source o.n) _ _ _ _ _ _ t.columns-asked columns-here;
        requests-asked = omega (arith, t.requests-asked, k, no_end);
        over = omega (arith, t.over, f.over, none_over status.NeedLargerNMax);
        small = omega (arith, t.small, f.small, none_over status.StepSizeTooSmall);
        interrupt = interrupts;
        stands = stands-next;
        after = after_next;
        grounds = true-there.grounds;
        tries = tries-next;
        here = here-next;
        truths = truths-next;
        notes = notes-next;
        ledger = ledger-next;
      }

-- ---- the opening

module _ (o : Opening) (j : Journal) (p : Opens o j.point) (start : j.turns ≡ []) where
  stands-first : Stands j.point.run.stage j.point.run (standing_at j.turns)
  unfolding standing_at asking_at marks_of pick
  stands-first =
      rw (p.stage, p.control, start)
      (record {
        aim = λ e. refl;
        failures = refl;
        early = λ e. (refl, refl);
        awaited = refl;
        landed = refl;
        singular = refl;
        low = λ e. omega arith;
      })

  truths-first : EventsTrue o j
  unfolding TrueIn
  truths-first = rw start tt

  notes-first : j.point.run.notes ≡ notes_of j
  unfolding latest_in kept_of steps_in strides_of kept_strides
  notes-first = rw (p.notes, start) refl

  here-first : AskedAt o (standing_at j.turns) (progress_at j.turns) j.point.run.stage j.point.run
  unfolding AskedAt standing_at
  here-first = rw (p.stage, start) refl

  ledger-first : Ledger o.settings.rule j
  unfolding happened asks_at pick
  ledger-first = record { solves = rw (p.place, start) refl; attempts = rw (p.place, start) refl }

  pub tallied-first : Tallied o j
  unfolding many happened rejected_in accepted_in acceptances asked_in is_ode is_jac is_report is_end in_jacobian
      asks_at differs first_stage interrupted_in ends_with owed left pick progress_at
  tallied-first =
      record {
        ode = rw (p.counts, p.request, p.place, start) refl;
        jac = rw (p.counts, p.request, p.place, start) refl;
        lu = rw (p.counts, start) refl;
        total = rw (p.counts, start) refl;
        accepted = rw (p.counts, p.request, p.place, start) refl;
        rejected = rw (p.counts, start) refl;
        acceptances-told = rw (p.request, p.place, start) refl;
        attempts-asked = rw (p.request, p.place, start) refl;
        reports-asked = rw (p.request, p.place, p.stage, start) refl;
        columns-asked = rw (p.request, p.place, p.stage, start) (omega arith);
        requests-asked = rw (p.request, p.place, start) refl;
        over = rw (p.request, start) refl;
        small = rw (p.request, start) refl;
        interrupt = rw (p.request, start) refl;
        stands = stands-first;
        after = rw (p.control, start) refl;
        grounds = record { settings-are = p.settings; order_is = p.order; xend-is = p.xend; posneg-is = p.posneg };
        tries = rw (p.counts, start) refl;
        here = here-first;
        truths = truths-first;
        notes = notes-first;
        ledger = ledger-first;
      }
