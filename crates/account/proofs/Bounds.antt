-- The counters of a run stay within bounds, wherever an advance stands: one table says what is left of each bound at
-- each position, and every rule of Rules.antt keeps it. No float is looked at, and all is linear arithmetic. M is
-- max_steps, K newton_maxiter.
--     bounds-first     an accepted opening stands within the table
--     bounds-closed    every rule leads from within it to within it
--     bounds-fit       a run within it that has not ended passes refusal 13's tests of its counters
--     bounds-ended     a run that has ended within it has kept the final bounds
use Prim.Native.Nat.{ℕ, ◌+◌, ◌-◌, ◌*◌, ◌≤◌}
use mathlib.Core.Bool.{false, true≢false}
use mathlib.Core.Path.{◌≡◌, refl, sym, ap, subst}
use mathlib.Core.List.{List}
use lib.Ieee.{Float}
use native.Mathlib.Nat.{mul-le-mul_left}
use native.Mathlib.Omega.{arith}
use Rattle.state.specs.declared.settings.Rule.{Rule}
use Rattle.state.specs.declared.settings.Rule.TheVariants as rule
use Rattle.state.specs.declared.run.Counts.{Counts}
use Rattle.state.specs.declared.run.Control.{Control}
use Rattle.state.specs.declared.run.Run.{Run}
use Rattle.state.specs.declared.run.Stage.{Stage}
use Rattle.state.specs.declared.run.Stage.TheVariants as stage
use Rattle.state.specs.declared.run.Status.{Status}
use Rattle.state.specs.declared.run.Status.TheVariants as status
use Rattle.state.specs.declared.talk.Reply.{Reply}
use Rattle.state.specs.Numbers.{status_number}
use Rattle.opening.specs.Opening.{first_counts, first_control}
use Rattle.opening.specs.Admission.{asking_at}
use Rattle.solve_blocks.specs.Setters.{◌▸◌, in_counts, in_control}
use Rattle.solve_blocks.specs.Report.{ask_modified}
use Rattle.solve_blocks.specs.Events.{Event}
use Rattle.solve_blocks.proofs.Rules.{Position, replied, reporting, arrived, main, matrices}
use Rattle.solve_blocks.proofs.Rules.{attempt, failing, newton, estimate, judging, asked, Closed}

-- ---- the bounds

-- what holds of a run that has not ended, and past its end
pub record Ceilings (r : Run) : Type 0 where
  pub ode : r.counts.ode ≤ 2 + 3 * (r.settings.newton_maxiter + 1) * r.settings.max_steps
  pub jac : r.counts.jac ≤ 6 * (r.settings.max_steps + 1)
  pub lu : r.counts.lu ≤ 13 * r.settings.max_steps + 12
  pub accepted : r.counts.accepted ≤ r.settings.max_steps
  pub rejected : r.counts.rejected ≤ 2 * r.settings.max_steps
  pub judged : r.settings.rule ≡ rule.Book → r.counts.accepted + r.counts.rejected ≤ r.settings.max_steps
  pub rounds : r.control.newt_iter ≤ r.settings.newton_maxiter

-- a run that has not ended and waits at the stage s
pub record Fits (s : Stage) (r : Run) : Type 0 where
  pub ceilings : Ceilings r
  pub total : r.counts.total ≤ r.settings.max_steps
  pub failures : r.control.singular_count ≤ 5
  pub column : (asking_at s).column ≤ r.shape.n

-- a run that has ended with the status s: only the attempt over the limit is counted past it
pub record Final (s : Status) (r : Run) : Type 0 where
  pub ceilings : Ceilings r
  pub total : r.counts.total ≤ r.settings.max_steps + 1
  pub limited : s ≡ status.NeedLargerNMax → r.counts.total ≡ r.settings.max_steps + 1
  pub only : r.counts.total ≡ r.settings.max_steps + 1 → s ≡ status.NeedLargerNMax

-- ---- the table

-- What is left of each bound; the bounds grow with the attempts that were begun.
pub record Left (accepted rejected judged jac lu ode rounds column : ℕ) (r : Run) : Type 0 where
  -- an attempt is accepted at most once, and rejected at most twice: by a slow verdict of the Rust rule, then by the
  -- error test
  pub accepted-left : r.counts.accepted + accepted ≤ r.counts.total
  pub rejected-left : r.counts.rejected + rejected ≤ 2 * r.counts.total
  -- by the book rule it is one of the two at most, once
  pub judged-left : r.settings.rule ≡ rule.Book
      → r.counts.accepted + r.counts.rejected + judged ≤ r.counts.total
  -- one Jacobian and two decompositions for each pass through the matrices and the one to come: a pass ends in an
  -- attempt or in a failure, and an acceptance forgets at most five failures
  pub jac-left : r.counts.jac + jac ≤ r.counts.total + 5 * r.counts.accepted + r.control.singular_count + 1
  -- and the first error solve of an attempt, which is counted as a decomposition
  pub lu-left : r.counts.lu + lu
      ≤ 2 * (r.counts.total + 5 * r.counts.accepted + r.control.singular_count + 1) + r.counts.total
  -- two at the start, and for an attempt three in each round and three past them: a refinement, the accepted point, a
  -- modified point
  pub ode-left : r.counts.ode + ode ≤ 2 + 3 * (r.settings.newton_maxiter + 1) * r.counts.total
  pub rounds-left : r.control.newt_iter + rounds ≤ r.settings.newton_maxiter
  -- not what is left, but the column that is asked for
  pub column_fits : column ≤ r.shape.n
  pub total-fits : r.counts.total ≤ r.settings.max_steps
  pub failures-fit : r.control.singular_count ≤ 5
  -- what opening tested
  pub amounts-some : 1 ≤ r.shape.n
  pub rounds-some : 1 ≤ r.settings.newton_maxiter

-- the rounds that the attempt may still do
abbrev pub rounds_of : Run → ℕ
rounds_of r = r.settings.newton_maxiter - r.control.newt_iter

-- at the reply to a stage: accepted, rejected, judged, jac, lu, ode, rounds, column
unfoldable pub WithinAt : Stage → Run → Type 0
WithinAt stage.FirstDerivative r = Left 0 0 0 1 2 1 0 0 r
WithinAt stage.FirstReport r = Left 0 0 0 1 2 1 0 0 r
WithinAt stage.FirstDerivativeAgain r = Left 0 0 0 1 2 0 0 0 r
WithinAt stage.Jacobian r = Left 0 0 0 0 2 0 0 0 r
WithinAt (stage.Column c) r = Left 0 0 0 0 2 0 0 c r
WithinAt stage.Newton1 r = Left 1 2 1 1 3 (3 * rounds_of r + 2) 1 0 r
WithinAt stage.Newton2 r = Left 1 2 1 1 3 (3 * rounds_of r + 1) 1 0 r
WithinAt stage.Newton3 r = Left 1 2 1 1 3 (3 * rounds_of r) 1 0 r
WithinAt stage.Refinement r = Left 1 1 1 1 2 2 0 0 r
WithinAt stage.Accepted r = Left 0 0 0 6 12 1 0 0 r
WithinAt stage.Report r = Left 0 0 0 6 12 1 0 0 r
WithinAt stage.DerivativeAgain r = Left 0 0 0 6 12 0 0 0 r
WithinAt (stage.Ended s) r = Final s r

-- at the reply to a stage as above; a report may ask for a derivative more, at whatever point
unfoldable pub Within : Position → Type 0
Within (replied s r) = WithinAt s r
Within (reporting s r) =
    ((asking_at s).ended ≡ false) × ((x : Float) → WithinAt s (ask_modified s x r).run)
Within (arrived r) = Left 0 0 0 6 12 0 0 0 r
Within (main r) = Left 0 0 0 1 2 0 0 0 r
Within (matrices r) = Left 0 0 0 0 2 0 0 0 r
Within (attempt r) = Left 0 0 0 0 0 0 0 0 r
Within (failing r) = Left 0 0 0 0 0 0 0 0 r
Within (newton r) = Left 1 2 1 1 3 (3 * rounds_of r + 3) 0 0 r
Within (estimate r) = Left 1 1 1 1 3 3 0 0 r
Within (judging r) = Left 1 1 1 1 2 2 0 0 r
Within (asked c) = WithinAt c.run.stage c.run

-- ---- what the table gives

module _ {accepted rejected judged jac lu ode rounds column : ℕ} {r : Run} where
  ceilings : Left accepted rejected judged jac lu ode rounds column r → Ceilings r
  ceilings p = omega (arith, p.judged-left, mul-le-mul_left r.settings.newton_maxiter p.total-fits)

  fits : (s : Stage) → (asking_at s).column ≡ column → Left accepted rejected judged jac lu ode rounds column r → Fits
      s r
  fits s e p = record { ceilings = ceilings p; total = p.total-fits; failures = p.failures-fit; column = omega arith }

-- the stages that are not the end
pub bounds-fit : (s : Stage) (r : Run) → (asking_at s).ended ≡ false → WithinAt s r → Fits s r
unfolding WithinAt asking_at
bounds-fit stage.FirstDerivative r e p = fits stage.FirstDerivative refl p
bounds-fit stage.FirstReport r e p = fits stage.FirstReport refl p
bounds-fit stage.FirstDerivativeAgain r e p = fits stage.FirstDerivativeAgain refl p
bounds-fit stage.Jacobian r e p = fits stage.Jacobian refl p
bounds-fit (stage.Column c) r e p = fits (stage.Column c) refl p
bounds-fit stage.Newton1 r e p = fits stage.Newton1 refl p
bounds-fit stage.Newton2 r e p = fits stage.Newton2 refl p
bounds-fit stage.Newton3 r e p = fits stage.Newton3 refl p
bounds-fit stage.Refinement r e p = fits stage.Refinement refl p
bounds-fit stage.Accepted r e p = fits stage.Accepted refl p
bounds-fit stage.Report r e p = fits stage.Report refl p
bounds-fit stage.DerivativeAgain r e p = fits stage.DerivativeAgain refl p
bounds-fit (stage.Ended s) r e p = absurd (true≢false e)

pub bounds-ended : (s : Status) (r : Run) → WithinAt (stage.Ended s) r → Final s r
unfolding WithinAt
bounds-ended s r p = p

-- ---- the opening

pub bounds-first : (r : Run) → r.stage ≡ stage.FirstDerivative → r.counts ≡ first_counts → r.control ≡ first_control
    → 1 ≤ r.settings.newton_maxiter → 1 ≤ r.shape.n
    → WithinAt r.stage r
unfolding WithinAt
bounds-first r at counts control some n =
    let opened : Left 0 0 0 1 2 1 0 0 (r ▸ in_counts (λ _. first_counts) ▸ in_control (λ _. first_control)) = omega
    arith in
    let counted : WithinAt stage.FirstDerivative (r ▸ in_control (λ _. first_control)) =
    subst (λ (c : Counts). WithinAt stage.FirstDerivative (r ▸ in_counts (λ _. c) ▸ in_control (λ _. first_control)))
    (sym counts) opened in
    let controlled : WithinAt stage.FirstDerivative r =
    subst (λ (c : Control). WithinAt stage.FirstDerivative (r ▸ in_control (λ _. c))) (sym control) counted in
    subst (λ (s : Stage). WithinAt s r) (sym at) controlled

-- ---- the rules

-- an end that is not over the limit, known by the status' number
ends : (s : Status) {r : Run} → ¬ (status_number s ≡ 2) → Ceilings r
    → r.counts.total ≤ r.settings.max_steps → Final s r
ends s other c h = record {
  ceilings = c;
  total = omega arith;
  limited = λ e. absurd (other (ap status_number e));
  only = λ e. absurd (omega arith);
}

not-book : {x : Rule} → x ≡ rule.Rust → x ≡ rule.Book → ⊥
not-book rust book = true≢false (cc)

pub bounds-closed : (p : Reply) (mass jac : List Float)
    → Closed p mass jac (λ (es : List Event) (here : Position). Within here)
unfolding Within WithinAt asking_at
bounds-closed p mass jac =
    record {
      first-filled = λ w. omega (arith, w.judged-left);
      first-report = λ w. (refl, λ _. omega (arith, w.judged-left));
      later-report = λ w. (refl, λ _. omega (arith, w.judged-left));
      interrupted = λ {es} {s} {r} _ w.
          let f = bounds-fit s _ w.0 (w.1 r.numbers.x) in
          ends status.UserInterrupt (omega arith) (omega (arith, f.ceilings.judged)) f.total;
      modified = λ x _ w. w.1 x;
      first-told = λ {es} {r} _ _ _ w. let asking = w.1 r.numbers.x in omega (arith, asking.judged-left);
      later-told = λ {es} {r} _ _ _ w. let asking = w.1 r.numbers.x in omega (arith, asking.judged-left);
      first-again = λ w. w;
      later-again = λ w. w;
      success =
          λ _ w. ends status.Success (omega arith) (let c = ceilings w in omega (arith, c.judged)) w.total-fits;
      aims = λ _ _ _ _ _ w. omega (arith, w.judged-left);
      onward = λ _ _ _ _ _ _ _ w. omega (arith, w.judged-left);
      host-asked = λ _ _ w. omega (arith, w.judged-left);
      origin-asked = λ _ _ w. omega (arith, w.judged-left);
      jacobian-kept = λ _ w. omega (arith, w.judged-left);
      host-filled = λ w. w;
      origin-filled = λ w. omega (arith, w.judged-left);
      column-filled = λ _ h w. omega (arith, w.judged-left);
      columns-filled = λ _ _ w. omega (arith, w.judged-left);
      matrices-kept = λ _ w. omega (arith, w.judged-left);
      real-stopped = λ _ _ _ _ w. omega (arith, w.judged-left);
      complex-stopped = λ _ _ _ _ _ w. omega (arith, w.judged-left);
      decomposed = λ _ _ _ _ w. omega (arith, w.judged-left);
      sixth =
          λ _ w.
          ends status.SingularMatrix (omega arith) (let c = ceilings w in omega (arith, c.judged)) w.total-fits;
      another = λ _ _ h w. omega (arith, w.judged-left);
      limited = λ h w.
          record {
            ceilings = let c = ceilings w in omega (arith, c.judged);
            total = omega (arith, w.total-fits);
            limited = λ _. omega (arith, w.total-fits);
            only = λ _. refl;
          };
      shortened =
          λ h _ w. ends status.StepSizeTooSmall (omega arith) (let c = ceilings w in omega (arith, c.judged)) h;
      begins = λ _ _ _ h _ w. omega (arith, w.judged-left);
      first-stage = λ _ w. omega (arith, w.judged-left);
      second-stage = λ _ w. omega (arith, w.judged-left);
      not-near = λ _ _ _ _ w. omega (arith, w.judged-left);
      near = λ _ _ _ _ w. omega (arith, w.judged-left);
      diverges = λ _ _ _ _ _ w. omega (arith, w.judged-left);
      slow-rust = λ _ _ _ _ _ _ _ rust _ w. omega (arith, not-book rust);
      slow-book = λ _ _ _ _ _ _ _ _ _ w. omega (arith, w.judged-left);
      used-up = λ _ w. omega (arith, w.judged-left);
      another-round = λ _ h w. omega (arith, w.judged-left);
      refines = λ w. omega (arith, w.judged-left);
      estimated = λ w. omega (arith, w.judged-left);
      refined = λ w. w;
      accepts = λ _ _ _ _ _ w. omega (arith, w.judged-left);
      fails-first = λ _ _ _ _ _ _ w. omega (arith, w.judged-left);
      fails-later = λ _ _ _ _ _ _ w. omega (arith, w.judged-left);
      accepted-filled = λ _ w. omega (arith, w.judged-left);
    }
