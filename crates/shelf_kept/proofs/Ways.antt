-- What an advance from a stage does, by the rules: it accepts a step exactly where it comes to the stage past an
-- acceptance, from where alone a later report is asked.
use mathlib.Core.Path.{◌≡◌, refl, sym, ap, ◌∙◌}
use mathlib.Core.Bool.{Bool, true, false, not, ◌||◌}
use mathlib.Core.List.{List, [], ◌∷◌, ◌++◌}
use lib.Dec.{ltb}
use Rattle.state.specs.declared.run.Stage.{Stage}
use Rattle.state.specs.declared.run.Stage.TheVariants as stage
use Rattle.state.specs.declared.talk.Reply.{Reply}
use lib.Ieee.{Float}
use Rattle.solve_blocks.specs.Events.{Event}
use Rattle.solve_blocks.proofs.Rules.{Position, replied, reporting, arrived, main, matrices}
use Rattle.solve_blocks.proofs.Rules.{attempt, failing, newton, estimate, judging, asked, Closed}
use Rattle.account.specs.Reading.{means_of, later, later_all}
use Rattle.shelf_kept.specs.Kept.{accepts}

-- where a stage stands: at the first derivative; past the first report's request; past an acceptance; at a report that
-- is not the first
pub record Way : Type 0 where
  pub first : Bool
  pub begun : Bool
  pub accepted : Bool
  pub later : Bool

abbrev way : Bool → Bool → Bool → Bool → Way
way f b a l = record { first = f; begun = b; accepted = a; later = l }

abbrev working : Way
working = way false true false false

unfoldable pub way_of : Stage → Way
way_of stage.FirstDerivative = way true false false false
way_of stage.FirstReport = way false false false false
way_of stage.FirstDerivativeAgain = working
way_of stage.Jacobian = working
way_of (stage.Column c) = working
way_of stage.Newton1 = working
way_of stage.Newton2 = working
way_of stage.Newton3 = working
way_of stage.Refinement = working
way_of stage.Accepted = way false true true false
way_of stage.Report = way false true false true
way_of stage.DerivativeAgain = working
way_of (stage.Ended s) = working

unfoldable pub is_first : Stage → Bool
is_first s = (way_of s).first

unfoldable pub is_begun : Stage → Bool
is_begun s = (way_of s).begun

unfoldable pub is_accepted : Stage → Bool
is_accepted s = (way_of s).accepted

unfoldable pub is_later : Stage → Bool
is_later s = (way_of s).later

-- one event more
past : (es : List Event) (e : Event) (b : Bool) → later_all (es ++ e ∷ []) b ≡ later e (later_all es b)
unfolding later_all
past [] e b = refl
past (f ∷ es) e b = past es e (later f b)

module _ (es : List Event) (e : Event) where
  still : (means_of e).accepted ≡ 0 → accepts es ≡ false → accepts (es ++ e ∷ []) ≡ false
  unfolding later
  still none w = past es e false ∙ ap (λ k. ltb 0 k || later_all es false) none ∙ w

  now : (means_of e).accepted ≡ 1 → accepts (es ++ e ∷ []) ≡ true
  unfolding later
  now some = past es e false ∙ ap (λ k. ltb 0 k || later_all es false) some

-- ---- from the stage s₀

-- at the reply to its request
pub record Begins (s₀ : Stage) (es : List Event) (s : Stage) : Type 0 where
  pub quiet : accepts es ≡ false
  pub is : s ≡ s₀

-- on the way; it is neither the first derivative's nor that past an acceptance
pub record Plain (s₀ : Stage) (es : List Event) : Type 0 where
  pub quiet : accepts es ≡ false
  pub away : false ≡ is_accepted s₀
  pub past : true ≡ not (is_first s₀)

-- at the next request
pub record Comes (s₀ : Stage) (es : List Event) (s : Stage) : Type 0 where
  pub accepted : accepts es ≡ is_accepted s
  pub later : is_later s ≡ is_accepted s₀
  pub begun : is_begun s ≡ not (is_first s₀)

-- the stage of the derivative that a modified point asks for
pub record Again (s₀ : Stage) (es : List Event) (s : Stage) : Type 0 where
  pub plain : Plain s₀ es
  pub accepted : is_accepted s ≡ false
  pub later : is_later s ≡ false
  pub begun : is_begun s ≡ true

module _ (s₀ : Stage) where
  unfoldable pub Goes : List Event → Position → Type 0
  Goes es (replied s r) = Begins s₀ es s
  Goes es (reporting s r) = Again s₀ es s
  Goes es (arrived r) = Plain s₀ es
  Goes es (main r) = Plain s₀ es
  Goes es (matrices r) = Plain s₀ es
  Goes es (attempt r) = Plain s₀ es
  Goes es (failing r) = Plain s₀ es
  Goes es (newton r) = Plain s₀ es
  Goes es (estimate r) = Plain s₀ es
  Goes es (judging r) = Plain s₀ es
  Goes es (asked c) = Comes s₀ es c.run.stage

  -- from a reply to a plain stage
  plain : {es : List Event} (s : Stage) → is_accepted s ≡ false → is_first s ≡ false → Begins s₀ es s → Plain s₀ es
  plain s a b w =
      record {
        quiet = w.quiet;
        away = sym a ∙ ap is_accepted w.is;
        past = ap not (sym b) ∙ ap (λ t. not (is_first t)) w.is;
      }

  again : {es : List Event} (s t : Stage) → is_accepted s ≡ false → is_first s ≡ false → is_accepted t ≡ false
      → is_later t ≡ false → is_begun t ≡ true → Begins s₀ es s → Again s₀ es t
  again s t a b c d e w = record { plain = plain s a b w; accepted = c; later = d; begun = e }

  -- on past an event, and to a plain stage
  on : (es : List Event) (e : Event) → (means_of e).accepted ≡ 0 → Plain s₀ es → Plain s₀ (es ++ e ∷ [])
  on es e none w = record { quiet = still es e none w.quiet; away = w.away; past = w.past }

  to : {es : List Event} (s : Stage) → is_accepted s ≡ false → is_later s ≡ false → is_begun s ≡ true → Plain s₀ es
      → Comes s₀ es s
  to s a b c w = record { accepted = w.quiet ∙ sym a; later = b ∙ w.away; begun = c ∙ w.past }

  pub goes-closed : (p : Reply) (mass jac : List Float) → Closed p mass jac Goes
  unfolding Goes way_of is_accepted is_later is_begun is_first means_of
  goes-closed p mass jac =
      record {
        first-filled = λ w.
            record {
              accepted = w.quiet;
              later = ap is_accepted w.is;
              begun = ap (λ t. not (is_first t)) w.is;
            };
        first-report = λ w. again stage.FirstReport stage.FirstDerivativeAgain refl refl refl refl refl w;
        later-report = λ w. again stage.Report stage.DerivativeAgain refl refl refl refl refl w;
        interrupted = λ {es} {s} {r} _ w. to (stage.Ended _) refl refl refl w.plain;
        modified = λ {es} {s} {r} x _ w. to s w.accepted w.later w.begun w.plain;
        first-told = λ mark _ _ w. w.plain;
        later-told = λ mark _ _ w. w.plain;
        first-again = λ w. plain stage.FirstDerivativeAgain refl refl w;
        later-again = λ w. plain stage.DerivativeAgain refl refl w;
        success = λ _ w. to (stage.Ended _) refl refl refl w;
        aims = λ {es} hnew hhfac jac _ _ w. on es _ refl w;
        onward = λ {es} hnew h hhfac decomp jac _ _ w. on es _ refl w;
        host-asked = λ _ _ w. to stage.Jacobian refl refl refl w;
        origin-asked = λ _ _ w. to (stage.Column 0) refl refl refl w;
        jacobian-kept = λ _ w. w;
        host-filled = λ w. plain stage.Jacobian refl refl w;
        origin-filled = λ w. to (stage.Column 1) refl refl refl (plain (stage.Column 0) refl refl w);
        column-filled = λ c _ w. to (stage.Column _) refl refl refl (plain (stage.Column _) refl refl w);
        columns-filled = λ c _ w. plain (stage.Column _) refl refl w;
        matrices-kept = λ _ w. w;
        real-stopped = λ {es} f k _ _ w. on es _ refl w;
        complex-stopped = λ {es} f k _ _ _ w. on es _ refl w;
        decomposed = λ {es} f _ _ _ w. on es _ refl w;
        sixth = λ _ w. to (stage.Ended _) refl refl refl w;
        another = λ h hhfac _ w. w;
        limited = λ {es} _ w. to (stage.Ended _) refl refl refl (on es _ refl w);
        shortened = λ {es} _ _ w. to (stage.Ended _) refl refl refl (on es _ refl w);
        begins = λ {es} faccon theta x _ _ w. to stage.Newton1 refl refl refl (on es _ refl w);
        first-stage = λ x w. to stage.Newton2 refl refl refl (plain stage.Newton1 refl refl w);
        second-stage = λ x w. to stage.Newton3 refl refl refl (plain stage.Newton2 refl refl w);
        not-near = λ theta thqold faccon dynold w. plain stage.Newton3 refl refl w;
        near = λ theta thqold faccon dynold w. plain stage.Newton3 refl refl w;
        diverges = λ {es} theta thqold faccon dynold _ w. on es _ refl (plain stage.Newton3 refl refl w);
        slow-rust = λ {es} theta thqold faccon dynold dyth h hhfac _ _ w.
            on es _ refl (plain stage.Newton3 refl refl w);
        slow-book = λ {es} theta thqold faccon dynold dyth h hhfac _ _ w.
            on es _ refl (plain stage.Newton3 refl refl w);
        used-up = λ {es} _ w. on es _ refl w;
        another-round = λ x _ w. to stage.Newton1 refl refl refl w;
        refines = λ {es} w. to stage.Refinement refl refl refl (on es _ refl w);
        estimated = λ {es} w. on es _ refl w;
        refined = λ w. plain stage.Refinement refl refl w;
        accepts = λ {es} {r} err hnew hacc erracc _ w.
            record { accepted = now es _ refl; later = w.away; begun = w.past };
        fails-first = λ {es} err hnew h hhfac _ _ w. on es _ refl w;
        fails-later = λ {es} err hnew h hhfac _ _ w. on es _ refl w;
        accepted-filled = λ offered w.
            record {
              accepted = w.quiet;
              later = ap is_accepted w.is;
              begun = ap (λ t. not (is_first t)) w.is;
            };
      }
