-- How the requests of a run follow one another: what the reply to one leads to, against what is
-- told on the way to the next.
--     Flows                   between a request and the next: reports, Jacobian columns, acceptances, attempts, and how
--                             a run ends
--     flow-closed             the rules of an advance keep it
--     flow-start, flow-end    from a request to the next
use Prim.Native.Nat.{ℕ, ◌+◌, ◌-◌, ◌*◌, ◌≤◌}
use mathlib.Core.Path.{◌≡◌, refl, sym, ap, ap₂, subst, ◌∙◌}
use mathlib.Core.Bool.{Bool, true, false, not, ◌&&◌}
use mathlib.Core.List.{List, [], ◌∷◌, ◌++◌}
use native.Mathlib.Omega.{arith}
use lib.Dec.{eqb}
use lib.Ieee.{Float}
use borrow.Author.Tests.{ne_eqb}
use Rattle.words.specs.Loop.{pick}
use Rattle.state.specs.declared.settings.Source.{Source}
use Rattle.state.specs.declared.run.Run.{Run}
use Rattle.state.specs.declared.run.Stage.{Stage}
use Rattle.state.specs.declared.run.Stage.TheVariants as stage
use Rattle.state.specs.declared.run.Status.{Status}
use Rattle.state.specs.declared.run.Status.TheVariants as status
use Rattle.state.specs.declared.talk.Place.{Place}
use Rattle.state.specs.declared.talk.Place.TheVariants as place
use Rattle.state.specs.declared.talk.Reply.{Reply}
use Rattle.state.specs.declared.talk.Request.{Request}
use Rattle.state.specs.declared.talk.Request.TheVariants as request
use Rattle.opening.specs.Admission.{asking_at}
use Rattle.state.specs.declared.talk.Call.{Call}
use Rattle.solve_blocks.specs.Events.{Event, begun, over-limit, too_small, error-solve, accepted}
use Rattle.solve_blocks.specs.Report.{is_interrupt}
use Rattle.account.specs.Reading.{one, many, is_report, asks_at, is_jac, Means, means_of, same_status, width}
use Rattle.solve_blocks.proofs.Rules.{Position, replied, reporting, arrived, main, matrices}
use Rattle.solve_blocks.proofs.Rules.{attempt, failing, newton, estimate, judging, asked, Closed}

-- ---- kinds of stages and of requests

-- a report that will be asked
unfoldable pub owed : Stage → ℕ
owed stage.FirstDerivative = 1
owed stage.FirstReport = 0
owed stage.FirstDerivativeAgain = 0
owed stage.Jacobian = 0
owed (stage.Column c) = 0
owed stage.Newton1 = 0
owed stage.Newton2 = 0
owed stage.Newton3 = 0
owed stage.Refinement = 0
owed stage.Accepted = 1
owed stage.Report = 0
owed stage.DerivativeAgain = 0
owed (stage.Ended s) = 0

-- the columns of a difference Jacobian that are still to ask, of n
unfoldable pub left : ℕ → Stage → ℕ
left n stage.FirstDerivative = 0
left n stage.FirstReport = 0
left n stage.FirstDerivativeAgain = 0
left n stage.Jacobian = 0
left n (stage.Column c) = n - c
left n stage.Newton1 = 0
left n stage.Newton2 = 0
left n stage.Newton3 = 0
left n stage.Refinement = 0
left n stage.Accepted = 0
left n stage.Report = 0
left n stage.DerivativeAgain = 0
left n (stage.Ended s) = 0

unfoldable pub differs : Place → Bool
differs place.Nowhere = false
differs place.YToF0 = false
differs place.ContToZ1 = false
differs place.ContToZ2 = false
differs place.ContToZ3 = false
differs place.ContToF1 = false
differs place.YToFOrigin = true
differs place.YPerturbedToFPerturbed = true

-- one of the requests of a Jacobian
unfoldable pub in_jacobian : Request → Place → Bool
in_jacobian (request.Derivative x) p = differs p
in_jacobian (request.Jacobian x) p = true
in_jacobian (request.Report xold x offered) p = false
in_jacobian (request.Ended s) p = false

unfoldable pub ends_with : Status → Request → Bool
ends_with s (request.Derivative x) = false
ends_with s (request.Jacobian x) = false
ends_with s (request.Report xold x offered) = false
ends_with s (request.Ended t) = same_status s t

-- how many events of a kind
abbrev pub events_that : (Means → ℕ) → List Event → ℕ
events_that kind es = many (λ (e : Event). kind (means_of e)) es

-- ---- between a request, open at the stage s of a run of n amounts, and the next

pub record Tallies (s : Stage) (n : ℕ) (by : Source) (es : List Event) (c : Call) : Type 0 where
  pub reports : one (is_report c.request) + owed c.run.stage ≡ owed s + events_that (λ (m : Means). m.accepted) es
  pub columns : one (in_jacobian c.request c.place) + left n c.run.stage
      ≡ left n s + width by n * one (is_jac c.request c.place)
  pub acceptance : one ((asks_at c.place).f0 && not (asking_at s).report) ≡ events_that (λ (m : Means). m.accepted) es
  pub attempts :
      one ((asks_at c.place).z1 && eqb c.run.control.newt_iter 0)
      + one (ends_with status.NeedLargerNMax c.request) + one (ends_with status.StepSizeTooSmall c.request)
      ≡ events_that (λ (m : Means). m.total) es
  pub over : one (ends_with status.NeedLargerNMax c.request) ≡ events_that (λ (m : Means). m.over) es
  pub small : one (ends_with status.StepSizeTooSmall c.request) ≡ events_that (λ (m : Means). m.small) es

pub record FlowsFrom (s : Stage) (n : ℕ) (by : Source) (p : Reply) (es : List Event) (c : Call) : Type 0 where
  pub tallies : Tallies s n by es c
  pub interrupt : ends_with status.UserInterrupt c.request ≡ ((asking_at s).report && is_interrupt p)

abbrev pub Flows : Run → Reply → List Event → Call → Type 0
Flows r p es c = FlowsFrom r.stage r.shape.n r.settings.source p es c

-- ---- on the way

-- nothing that a request must answer for has happened
record Silent (es : List Event) : Type 0 where
  accepted : events_that (λ (m : Means). m.accepted) es ≡ 0
  total : events_that (λ (m : Means). m.total) es ≡ 0
  over : events_that (λ (m : Means). m.over) es ≡ 0
  small : events_that (λ (m : Means). m.small) es ≡ 0

-- nothing is owed
record Clear (s : Stage) (n : ℕ) (es : List Event) : Type 0 where
  silent : Silent es
  reports : owed s ≡ 0
  columns : left n s ≡ 0

module _ (s : Stage) (n : ℕ) (by : Source) (p : Reply) where
  -- at the reply to the request of the stage t
  record Replied (es : List Event) (t : Stage) (order : ℕ) (own : Source) : Type 0 where
    silent : Silent es
    stage : t ≡ s
    order_is : order ≡ n
    source : own ≡ by

  -- at the reply to a report; the stage t is that of a derivative
  record Reporting (es : List Event) (t : Stage) (own : Source) : Type 0 where
    clear : Clear s n es
    source : own ≡ by
    report : (asking_at s).report ≡ true
    reports : owed t ≡ 0
    columns : left n t ≡ 0

  -- not interrupted
  record Onward (es : List Event) (own : Source) : Type 0 where
    clear : Clear s n es
    source : own ≡ by
    calm : ((asking_at s).report && is_interrupt p) ≡ false

  -- past a Newton round
  record InRound (es : List Event) (own : Source) : Type 0 where
    clear : Clear s n es
    source : own ≡ by
    plain : (asking_at s).report ≡ false

abbrev From : Stage → ℕ → Source → Reply → List Event → Position → Type 0
From s n by p es (replied t r) = Replied s n by p es t r.shape.n r.settings.source
From s n by p es (reporting t r) = Reporting s n by p es t r.settings.source
From s n by p es (arrived r) = Onward s n by p es r.settings.source
From s n by p es (main r) = Onward s n by p es r.settings.source
From s n by p es (matrices r) = Onward s n by p es r.settings.source
From s n by p es (attempt r) = Onward s n by p es r.settings.source
From s n by p es (failing r) = Onward s n by p es r.settings.source
From s n by p es (newton r) = InRound s n by p es r.settings.source × (1 ≤ r.control.newt_iter)
From s n by p es (estimate r) = InRound s n by p es r.settings.source
From s n by p es (judging r) = InRound s n by p es r.settings.source
From s n by p es (asked c) = FlowsFrom s n by p es c

pub FlowAt : Run → Reply → List Event → Position → Type 0
FlowAt r p es at = From r.stage r.shape.n r.settings.source p es at

-- ---- one block of events after another

pub many-append : {A : Type 0} (kind : A → ℕ) (xs ys : List A) → many kind (xs ++ ys) ≡ many kind xs + many kind ys
unfolding many
many-append kind [] ys = omega arith
many-append kind (x ∷ xs) ys = omega (arith, many-append kind xs ys)

record Appended (es fs : List Event) : Type 0 where
  accepted : events_that (λ (m : Means). m.accepted) (es ++ fs)
      ≡ events_that (λ (m : Means). m.accepted) es + events_that (λ (m : Means). m.accepted) fs
  total : events_that (λ (m : Means). m.total) (es ++ fs)
      ≡ events_that (λ (m : Means). m.total) es + events_that (λ (m : Means). m.total) fs
  over : events_that (λ (m : Means). m.over) (es ++ fs)
      ≡ events_that (λ (m : Means). m.over) es + events_that (λ (m : Means). m.over) fs
  small : events_that (λ (m : Means). m.small) (es ++ fs)
      ≡ events_that (λ (m : Means). m.small) es + events_that (λ (m : Means). m.small) fs

appended : (es fs : List Event) → Appended es fs
appended es fs = record {
  accepted = many-append _ es fs;
  total = many-append _ es fs;
  over = many-append _ es fs;
  small = many-append _ es fs;
}

-- ---- from one kind of position to another

clear-append : {s : Stage} {n : ℕ} {es fs : List Event} → Clear s n es → Silent fs → Clear s n (es ++ fs)
clear-append {es = es} {fs} c q = omega (arith, appended es fs, c, q)

module _ {s : Stage} {n : ℕ} {by : Source} {p : Reply} {es : List Event} where
  onward-append : {fs : List Event} {own : Source} → Onward s n by p es own → Silent fs → Onward s n by p (es ++ fs) own
  onward-append h q = record { clear = clear-append h.clear q; source = h.source; calm = h.calm }

  in-round-append : {fs : List Event} {own : Source} → InRound s n by p es own → Silent fs
      → InRound s n by p (es ++ fs) own
  in-round-append h q = record { clear = clear-append h.clear q; source = h.source; plain = h.plain }

  go_on : {t : Stage} {own : Source} → is_interrupt p ≡ false → Reporting s n by p es t own → Onward s n by p es own
  go_on e h = record { clear = h.clear; source = h.source; calm = ap₂ ◌&&◌ h.report e }

  calmed : {own : Source} → InRound s n by p es own → Onward s n by p es own
  calmed h = record { clear = h.clear; source = h.source; calm = ap (λ (b : Bool). b && is_interrupt p) h.plain }

  -- past the reply at the stage t
  module _ {t : Stage} {order : ℕ} {own : Source} (h : Replied s n by p es t order own) where
    clear-from : owed t ≡ 0 → left n t ≡ 0 → Clear s n es
    clear-from o l =
        subst (λ (u : Stage). Clear u n es) h.stage (record { silent = h.silent; reports = o; columns = l })

    from-reply : {c : Call} → Tallies t n by es c
        → ends_with status.UserInterrupt c.request ≡ ((asking_at t).report && is_interrupt p) → FlowsFrom s n by p es c
    from-reply {c} a i =
        subst (λ (u : Stage). FlowsFrom u n by p es c) h.stage (record { tallies = a; interrupt = i })

    from-report : {again : Stage} → owed t ≡ 0 → left n t ≡ 0 → (asking_at t).report ≡ true → owed again ≡ 0
        → left n again ≡ 0 → Reporting s n by p es again own
    from-report o l q a b =
        record {
          clear = clear-from o l;
          source = h.source;
          report = subst (λ (u : Stage). (asking_at u).report ≡ true) h.stage q;
          reports = a;
          columns = b;
        }

    from-round : owed t ≡ 0 → left n t ≡ 0 → (asking_at t).report ≡ false → InRound s n by p es own
    from-round o l q = record {
      clear = clear-from o l;
      source = h.source;
      plain = subst (λ (u : Stage). (asking_at u).report ≡ false) h.stage q;
    }

-- ---- the rules

module _ (r : Run) (p : Reply) where
  pub flow-closed : (mass jac : List Float) → 1 ≤ r.shape.n → Closed p mass jac (FlowAt r p)
  unfolding FlowAt pick many is_report is_jac asks_at means_of is_interrupt width
      asking_at owed left differs in_jacobian ends_with
  flow-closed mass jac some =
      record {
        first-filled = λ h. from-reply h (omega (arith, h.silent)) refl;
        first-report = λ h. from-report h refl refl refl refl refl;
        later-report = λ h. from-report h refl refl refl refl refl;
        interrupted = λ e h. record { tallies = omega (arith, h.clear); interrupt = sym (ap₂ ◌&&◌ h.report e) };
        modified = λ x e h. record {
          tallies = omega (arith, h, ap (λ (b : Bool). one (not b)) h.report);
          interrupt = sym (ap₂ ◌&&◌ h.report (ap is_interrupt e));
        };
        first-told = λ mark e _ h. go_on e h;
        later-told = λ mark e _ h. go_on e h;
        first-again = λ h. calmed (from-round h refl refl refl);
        later-again = λ h. calmed (from-round h refl refl refl);
        success = λ e h. record { tallies = omega (arith, h.clear); interrupt = sym h.calm };
        aims = λ hnew hhfac jac e _ h. onward-append h (omega arith);
        onward = λ hnew h hhfac decomp jac e _ w. onward-append w (omega arith);
        host-asked = λ j e h. record {
          tallies = omega (arith, h.clear, ap (λ (b : Source). width b r.shape.n) (sym h.source ∙ e));
          interrupt = sym h.calm;
        };
        origin-asked = λ j e h. record {
          tallies = omega (arith, h.clear, ap (λ (b : Source). width b r.shape.n) (sym h.source ∙ e));
          interrupt = sym h.calm;
        };
        jacobian-kept = λ j h. h;
        host-filled = λ h. calmed (from-round h refl refl refl);
        origin-filled = λ h. from-reply h (omega (arith, h.silent, some)) refl;
        column-filled = λ c l h. from-reply h (omega (arith, h.silent, h.order_is, l)) refl;
        columns-filled = λ c l h. calmed (from-round h refl (omega (arith, h.order_is, l)) refl);
        matrices-kept = λ d h. h;
        real-stopped = λ f k _ _ h. onward-append h (omega arith);
        complex-stopped = λ f k _ _ _ h. onward-append h (omega arith);
        decomposed = λ f _ _ _ h. onward-append h (omega arith);
        sixth = λ more h. record { tallies = omega (arith, h.clear); interrupt = sym h.calm };
        another = λ h hhfac l w. w;
        limited = λ {es} l h. record {
          tallies = omega (arith, h.clear, appended es (over-limit ∷ []));
          interrupt = sym h.calm;
        };
        shortened = λ {es} {r} l _ h. record {
          tallies = omega (arith, h.clear, appended es (too_small r.numbers.h r.numbers.x ∷ []));
          interrupt = sym h.calm;
        };
        begins = λ {es} {r} faccon theta x l _ h. record {
          tallies = omega (arith, h.clear, appended es (begun r.numbers.h r.numbers.x ∷ []));
          interrupt = sym h.calm;
        };
        first-stage = λ x h. from-reply h (omega (arith, h.silent)) refl;
        second-stage = λ x h. from-reply h (omega (arith, h.silent)) refl;
        not-near = λ theta thqold faccon dynold h. (from-round h refl refl refl, omega arith);
        near = λ theta thqold faccon dynold h. from-round h refl refl refl;
        diverges = λ theta thqold faccon dynold e h. onward-append (calmed (from-round h refl refl refl)) (omega arith);
        slow-rust =
            λ theta thqold faccon dynold dyth h hhfac e l w.
            in-round-append (from-round w refl refl refl) (omega arith);
        slow-book =
            λ theta thqold faccon dynold dyth h hhfac e l w.
            onward-append (calmed (from-round w refl refl refl)) (omega arith);
        used-up = λ l h. onward-append (calmed h.0) (omega arith);
        another-round = λ {r = q} x l h.
            record {
              tallies = omega (arith, h.0.clear, ap one (ne_eqb q.control.newt_iter 0 (omega (arith, h.1))));
              interrupt = sym (calmed h.0).calm;
            };
        refines = λ {es} h. record {
          tallies = omega (arith, h.clear, appended es (error-solve ∷ []));
          interrupt = sym (calmed h).calm;
        };
        estimated = λ h. in-round-append h (omega arith);
        refined = λ h. from-round h refl refl refl;
        accepts = λ {es} {r} err hnew hacc erracc e h.
            record {
              tallies = omega (
                arith,
                h.clear,
                appended es (accepted err r.numbers.h ∷ []),
                ap (λ (b : Bool). one (not b)) h.plain,
              );
              interrupt = sym (calmed h).calm;
            };
        fails-first = λ err hnew h hhfac e f w. onward-append (calmed w) (omega arith);
        fails-later = λ err hnew h hhfac e f w. onward-append (calmed w) (omega arith);
        accepted-filled = λ offered h. from-reply h (omega (arith, h.silent)) refl;
      }

  pub flow-start : FlowAt r p [] (replied r.stage r)
  unfolding FlowAt many
  flow-start = record { silent = omega arith; stage = refl; order_is = refl; source = refl }

  pub flow-end : (es : List Event) (c : Call) → FlowAt r p es (asked c) → Flows r p es c
  unfolding FlowAt
  flow-end es c h = h
