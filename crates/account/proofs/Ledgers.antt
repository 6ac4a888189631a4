-- Every attempt comes to one end, and every first error solve is judged once: between a request and the next, what is
-- begun and what is ended balance, with what is open on either side.
--     Balanced          from the request of the stage s to the call c
--     ledger-closed     the rules of an advance keep the balance
--     ledger-start      it holds past a reply, before anything happened
use Prim.Native.Nat.{ℕ, ◌+◌}
use mathlib.Core.Path.{◌≡◌, refl, sym, ap, ◌∙◌}
use mathlib.Core.List.{List, [], ◌∷◌, ◌++◌}
use native.Mathlib.Omega.{arith}
use lib.Ieee.{Float}
use Rattle.words.specs.Loop.{pick}
use Rattle.state.specs.declared.settings.Rule.{Rule}
use Rattle.state.specs.declared.settings.Rule.TheVariants as rule
use Rattle.state.specs.declared.run.Run.{Run}
use Rattle.state.specs.declared.run.Stage.{Stage}
use Rattle.state.specs.declared.talk.Place.{Place}
use Rattle.state.specs.declared.talk.Reply.{Reply}
use Rattle.state.specs.declared.talk.Call.{Call}
use Rattle.solve_blocks.specs.Events.{Event, real-singular, complex-singular, factored, over-limit, too_small, begun}
use Rattle.solve_blocks.specs.Events.{rounds-used, diverged, slow, error-solve, failed, accepted, aimed, not-aimed}
use Rattle.account.specs.Reading.{one, many, asks_at, Means, means_of}
use Rattle.account.specs.Account.{slow_ends, attempts_ended}
use Rattle.solve_blocks.proofs.Rules.{Position, replied, reporting, arrived, main, matrices, attempt, failing, newton}
use Rattle.solve_blocks.proofs.Rules.{estimate, judging, asked, Closed}
use Rattle.account.proofs.Matches.{place_at}
use Rattle.account.proofs.Flow.{events_that, many-append}

-- the four sums of a list of events
abbrev pub solves : List Event → ℕ
solves es = events_that (λ (e : Means). e.solves) es

abbrev pub judged : List Event → ℕ
judged es = events_that (λ (e : Means). e.accepted + e.failed) es

abbrev pub begins : List Event → ℕ
begins es = events_that (λ (e : Means). e.total) es

abbrev pub ends : Rule → List Event → ℕ
ends u es = events_that (attempts_ended u) es

-- no slow verdict, no attempt ended by one
no-slow : (u : Rule) → slow_ends u 0 ≡ 0
unfolding slow_ends
no-slow rule.Rust = refl
no-slow rule.Book = refl

module _ (u : Rule) (s : Stage) where
  -- so many error solves and so many attempts are open here
  pub record Open (es : List Event) (own : Rule) (solving attempting : ℕ) : Type 0 where
    pub rule-is : own ≡ u
    pub solves-even : solves es + one (asks_at (place_at s)).refines ≡ judged es + solving
    pub attempts-even : begins es + one (asks_at (place_at s)).attempt ≡ ends u es + attempting

  -- past the reply to the request of the stage t
  record Replied (es : List Event) (t : Stage) (own : Rule) : Type 0 where
    rule-is : own ≡ u
    stage_is : t ≡ s
    solves-none : solves es ≡ 0
    judged-none : judged es ≡ 0
    begins-none : begins es ≡ 0
    ends-none : ends u es ≡ 0

  -- what is open at a place
  abbrev pub Balanced : List Event → Rule → Place → Type 0
  Balanced es own p = Open es own (one (asks_at p).refines) (one (asks_at p).attempt)

  abbrev At : List Event → Position → Type 0
  At es (replied t r) = Replied es t r.settings.rule
  At es (reporting t r) = Open es r.settings.rule 0 0
  At es (arrived r) = Open es r.settings.rule 0 0
  At es (main r) = Open es r.settings.rule 0 0
  At es (matrices r) = Open es r.settings.rule 0 0
  At es (attempt r) = Open es r.settings.rule 0 0
  At es (failing r) = Open es r.settings.rule 0 0
  At es (newton r) = Open es r.settings.rule 0 1
  At es (estimate r) = Open es r.settings.rule 0 1
  At es (judging r) = Open es r.settings.rule 1 1
  At es (asked c) = Balanced es c.run.settings.rule c.place

  pub LedgerAt : List Event → Position → Type 0
  LedgerAt es here = At es here

  -- past the reply at the stage t, what its place says is open
  from-reply : {es : List Event} {t : Stage} {own : Rule} → Replied es t own → Balanced es own (place_at t)
  from-reply {es} {t} h =
      let refines = ap (λ (v : Stage). one (asks_at (place_at v)).refines) h.stage_is in
      let attempt = ap (λ (v : Stage). one (asks_at (place_at v)).attempt) h.stage_is in
      record {
        rule-is = h.rule-is;
        solves-even = omega (arith, h.solves-none, h.judged-none, refines);
        attempts-even = omega (arith, h.begins-none, h.ends-none, attempt);
      }

  -- events more: they begin and end so much
  notes : {own : Rule} {a b c d : ℕ} (es fs : List Event) → Open es own a b → solves fs + a ≡ judged fs + c
      → begins fs + b ≡ ends u fs + d → Open (es ++ fs) own c d
  notes es fs h e f =
      record {
        rule-is = h.rule-is;
        solves-even = omega (
          arith,
          h.solves-even,
          e,
          many-append (λ (x : Event). (means_of x).solves) es fs,
          many-append (λ (x : Event). (means_of x).accepted + (means_of x).failed) es fs,
        );
        attempts-even = omega (
          arith,
          h.attempts-even,
          f,
          many-append (λ (x : Event). (means_of x).total) es fs,
          many-append (λ (x : Event). attempts_ended u (means_of x)) es fs,
        );
      }

  pub ledger-start : (r : Run) → r.settings.rule ≡ u → r.stage ≡ s → LedgerAt [] (replied r.stage r)
  unfolding LedgerAt many
  ledger-start r e f =
      record { rule-is = e; stage_is = f; solves-none = refl; judged-none = refl; begins-none = refl; ends-none = refl }

  pub ledger-end : (es : List Event) (c : Call) → LedgerAt es (asked c)
      → Balanced es c.run.settings.rule c.place
  unfolding LedgerAt
  ledger-end es c h = h

  pub ledger-closed : (p : Reply) (mass jac : List Float) → Closed p mass jac LedgerAt
  unfolding LedgerAt asks_at place_at pick many means_of slow_ends
  ledger-closed p mass jac =
      let calm = no-slow u in
      record {
        first-filled = λ h. from-reply h;
        first-report = λ h. from-reply h;
        later-report = λ h. from-reply h;
        interrupted = λ _ h. h;
        modified = λ x _ h. h;
        first-told = λ mark _ _ h. h;
        later-told = λ mark _ _ h. h;
        first-again = λ h. from-reply h;
        later-again = λ h. from-reply h;
        success = λ _ h. h;
        aims = λ {es} {r} hnew hhfac jac _ _ h. notes es (aimed r.numbers.x hnew ∷ []) h refl (omega (arith, calm));
        onward =
            λ {es} {r} hnew h hhfac decomp jac _ _ w.
            notes es (not-aimed r.numbers.x hnew ∷ []) w refl (omega (arith, calm));
        host-asked = λ _ _ h. h;
        origin-asked = λ _ _ h. h;
        jacobian-kept = λ _ h. h;
        host-filled = λ h. from-reply h;
        origin-filled = λ h. from-reply h;
        column-filled = λ c _ h. from-reply h;
        columns-filled = λ c _ h. from-reply h;
        matrices-kept = λ _ h. h;
        real-stopped =
            λ {es} {r} f k _ _ h. notes es (real-singular r.numbers.h k ∷ []) h refl (omega (arith, calm));
        complex-stopped =
            λ {es} {r} f k _ _ _ h. notes es (complex-singular r.numbers.h k ∷ []) h refl (omega (arith, calm));
        decomposed = λ {es} {r} f _ _ _ h. notes es (factored r.numbers.h ∷ []) h refl (omega (arith, calm));
        sixth = λ _ h. h;
        another = λ h hhfac _ w. w;
        limited = λ {es} _ h. notes es (over-limit ∷ []) h refl (omega (arith, calm));
        shortened =
            λ {es} {r} _ _ h. notes es (too_small r.numbers.h r.numbers.x ∷ []) h refl (omega (arith, calm));
        begins =
            λ {es} {r} faccon theta x _ _ h.
            notes es (begun r.numbers.h r.numbers.x ∷ []) h refl (omega (arith, calm));
        first-stage = λ x h. from-reply h;
        second-stage = λ x h. from-reply h;
        not-near = λ theta thqold faccon dynold h. from-reply h;
        near = λ theta thqold faccon dynold h. from-reply h;
        diverges =
            λ {es} theta thqold faccon dynold _ h.
            notes es (diverged theta ∷ []) (from-reply h) refl (omega (arith, calm));
        slow-rust = λ {es} theta thqold faccon dynold dyth h hhfac rust _ w.
            let o = from-reply w in
            notes es (slow dyth ∷ []) o refl (omega (arith, ap (λ (v : Rule). slow_ends v 1) (sym o.rule-is ∙ rust)));
        slow-book = λ {es} theta thqold faccon dynold dyth h hhfac book _ w.
            let o = from-reply w in
            notes es (slow dyth ∷ []) o refl (omega (arith, ap (λ (v : Rule). slow_ends v 1) (sym o.rule-is ∙ book)));
        used-up = λ {es} {r} _ h. notes es (rounds-used r.control.newt_iter ∷ []) h refl (omega (arith, calm));
        another-round = λ x _ h. h;
        refines = λ {es} h. notes es (error-solve ∷ []) h (omega arith) (omega (arith, calm));
        estimated = λ {es} h. notes es (error-solve ∷ []) h (omega arith) (omega (arith, calm));
        refined = λ h. from-reply h;
        accepts =
            λ {es} {r} err hnew hacc erracc _ h.
            notes es (accepted err r.numbers.h ∷ []) h (omega arith) (omega (arith, calm));
        fails-first = λ {es} err hnew h hhfac _ _ w. notes es (failed err ∷ []) w (omega arith) (omega (arith, calm));
        fails-later = λ {es} err hnew h hhfac _ _ w. notes es (failed err ∷ []) w (omega arith) (omega (arith, calm));
        accepted-filled = λ offered h. from-reply h;
      }
