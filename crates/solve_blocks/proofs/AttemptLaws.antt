-- The ways through an attempt's beginning, over what the calls on each promise.
--     guess-zeros                                   the first guess before the first acceptance
--     began-by                                      the calls past the guards
--     attempt-over, attempt-small, attempt-begun    the attempt's three ways out
use Prim.Native.Nat.{ℕ, ◌+◌, ◌≤◌, ◌<◌}
use mathlib.Core.Path.{◌≡◌, ap, sym, ◌∙◌}
use mathlib.Core.Bool.{Bool, true, false}
use mathlib.Core.List.{List}
use native.Mathlib.Omega.{arith}
use lib.ListN.{length}
use lib.Ieee.{Float, le}
use borrow.Author.Tests.{lt-ltb, le-ltb}
use Rattle.words.specs.Words.{◌⊗◌}
use Rattle.words.specs.Constants.{«0·1»}
use Rattle.words.proofs.Branch.{yes, pick_yes, pick_no}
use Rattle.scalar.specs.Order.{abs_of}
use Rattle.state.specs.declared.run.Run.{Run}
use Rattle.state.specs.declared.run.Status.TheVariants.{NeedLargerNMax, StepSizeTooSmall}
use Rattle.state.specs.Memory.{Newton, newton, zeros}
use Rattle.state.specs.declared.talk.Call.{Call}
use Rattle.solve_blocks.specs.Setters.{in_counts, one_total}
use Rattle.solve_blocks.specs.Events.{Logged}
use Rattle.solve_blocks.specs.Matrices.{ended_of}
use Rattle.solve_blocks.specs.Scale.{weighted_of}
use Rattle.solve_blocks.specs.Attempt.{guess_of, Staged, staged, ask_first_of, Begun}
use Rattle.solve_blocks.specs.Attempt.{begun_as, started, began_of, attempt_of}
use Rattle.solve_blocks.specs.Needs.{Fit, NewtonLong}

-- before the first acceptance every part is set to zeros
module _ (first : Bool) (n : ℕ) (h hold : Float) (cont : List Float) (m : Newton) where
  pub guess-zeros :
      first ≡ true → NewtonLong n m → (z1 z2 z3 f1 f2 f3 : List Float) →
      z1 ≡ zeros (length m.z1) → z2 ≡ zeros (length m.z2) → z3 ≡ zeros (length m.z3) →
      f1 ≡ zeros (length m.f1) → f2 ≡ zeros (length m.f2) → f3 ≡ zeros (length m.f3) →
      newton z1 z2 z3 f1 f2 f3 ≡ guess_of first n h hold cont m
  unfolding guess_of
  guess-zeros t l z1 z2 z3 f1 f2 f3 a b c d e f =
      yes _ _ _ t (rw (a, b, c, d, e, f, l.z1, l.z2, l.z3, l.f1, l.f2, l.f3))

-- a run stays fit: at the start of the Newton iteration, and with one more attempt counted
pub started-fit : {k n : ℕ} {r : Run} → Fit k n r → Fit k n (started r)
started-fit f = omega arith

pub counted-fit : {k n : ℕ} {r : Run} → Fit (k + 1) n r → Fit k n (in_counts one_total r)
counted-fit f = omega arith

-- past the guards: the four calls
module _ (r : Run) (y scal cont : List Float) (m : Newton) where
  pub began-by :
      (scal' : List Float) → scal' ≡ weighted_of r.shape r.numbers.hhfac scal →
      (m' : Newton) → m' ≡ guess_of r.control.first r.shape.n r.numbers.h r.numbers.hold cont m →
      (s : Run) → s ≡ started r →
      (c : Call) (cont' : List Float) → staged c cont' ≡ ask_first_of s y m'.z1 cont →
      begun_as c scal' cont' m' ≡ began_of r y scal cont m
  unfolding began_of
  began-by scal' w m' g s p c cont' a = rw (ap (λ (t : Staged). t.call) a, ap (λ (t : Staged). t.cont) a, w, p, g)

-- the three ways out of an attempt: over the limit of steps, its step too small, or begun
module _ (r : Run) (y scal cont : List Float) (m : Newton) where
  pub attempt-over :
      r.settings.max_steps < r.counts.total + 1 →
      (c : Call) → c ≡ ended_of NeedLargerNMax (in_counts one_total r) →
      begun_as c scal cont m ≡ (attempt_of r y scal cont m).core
  unfolding attempt_of
  attempt-over t c e = rw e (ap (λ (l : Logged Begun). l.core) (sym (pick_yes _ _ (lt-ltb _ _ t))))

  module _
      (within : r.counts.total + 1 ≤ r.settings.max_steps)
      (h x : Float) (he : h ≡ abs_of r.numbers.h) (xe : x ≡ abs_of r.numbers.x) where
    pub attempt-small :
        le («0·1» ⊗ h) (x ⊗ r.settings.uround) ≡ true →
        (c : Call) → c ≡ ended_of StepSizeTooSmall (in_counts one_total r) →
        begun_as c scal cont m ≡ (attempt_of r y scal cont m).core
    unfolding attempt_of
    attempt-small t c e =
        rw e
        (ap (λ (l : Logged Begun). l.core) (sym (pick_no _ _ (le-ltb _ _ within) ∙ pick_yes _ _ (rw (he, xe) at t))))

    pub attempt-begun :
        le («0·1» ⊗ h) (x ⊗ r.settings.uround) ≡ false →
        (b : Begun) → b ≡ began_of (in_counts one_total r) y scal cont m →
        b ≡ (attempt_of r y scal cont m).core
    unfolding attempt_of
    attempt-begun t b e =
        e ∙ ap (λ (l : Logged Begun). l.core) (sym (pick_no _ _ (le-ltb _ _ within) ∙ pick_no _ _ (rw (he, xe) at t)))
