-- The ways through an elimination, for any kind of matrix: what the code's tests and calls showed, and the
-- definition's value that follows.
--     pivot-zero, pivot-used                   out of a pass
--     went_on                                  one pass more
--     ends-within, ends-zero, ends-done        out of all passes: from within the loop, and by the last diagonal entry
--     one-zero, one-done, several              the order 1, and any other
use Prim.Native.Nat.{ℕ, ◌-◌, ◌<◌}
use mathlib.Core.Bool.{true, false, true≢false}
use mathlib.Core.Path.{◌≡◌, refl, sym, ap, ◌∙◌}
use mathlib.Core.List.{List}
use lib.Dec.{eqb}
use lib.ListN.{set}
use Rattle.std.proofs.Common.{Ok, Err, is_ok}
use Rattle.words.specs.Loop.{loop}
use Rattle.words.proofs.Branch.{yes, no, pick_no}
use Rattle.words.proofs.Loops.{Ran, stopped}
use Rattle.matrix.specs.declared.answers.DecompositionError.{DecompositionError}
use Rattle.matrix.specs.declared.answers.DecompositionError.TheVariants.{Singular}
use Rattle.matrix.specs.Answers.{Stop, nowhere, column, stop_answer, Decomposition, decomposition}
use Rattle.matrix.specs.Elimination.{Kind, Work, work, goes_on, pivot_row, eliminated, pass_with}
use Rattle.matrix.specs.Elimination.{passed, pass_at, last_tested, single, worked, answered}

done-nowhere : (s : Stop) → Ok tt ≡ stop_answer s → s ≡ nowhere
done-nowhere nowhere e = refl
done-nowhere (column k) e = absurd (true≢false (ap is_ok e))

error-column : (s : Stop) {e : DecompositionError} → Err e ≡ stop_answer s → goes_on s ≡ false
error-column nowhere e = absurd (true≢false (sym (ap is_ok e)))
error-column (column k) e = refl

module _ {A E : Type 0} (kind : Kind A E) (n : ℕ) where
  -- ---- a pass

  module _ (k m : ℕ) (a : A) (ip : List ℕ) (row : m ≡ pivot_row kind n a k) where
    pub pivot-zero : kind.is_zero (kind.at a n m k) ≡ true
        → decomposition (Err (Singular k)) a (set ip k m) ≡ answered kind n (passed kind n k a ip)
    unfolding passed pass_with answered
    pivot-zero z =
        ap (answered kind n) (yes _ _ _ z refl ∙ ap (λ (m : ℕ). pass_with kind n k m a ip) row)

    pub pivot-used : {a' : A} → kind.is_zero (kind.at a n m k) ≡ false → a' ≡ eliminated kind n k m a
        → decomposition (Ok tt) a' (set ip k m) ≡ answered kind n (passed kind n k a ip)
    unfolding passed pass_with answered
    pivot-used z e =
        ap (answered kind n)
        (no _ _ _ z (ap (λ (a : A). work a (set ip k m) nowhere) e) ∙ ap (λ (m : ℕ). pass_with kind n k m a ip) row)

  -- ---- what an answer says of the stop

  module _ {a : A} {ip : List ℕ} (w : Work A) where
    done-is : decomposition (Ok tt) a ip ≡ answered kind n w → work a ip nowhere ≡ w
    unfolding answered
    done-is e =
        ap (λ (d : Decomposition A). work d.a d.ip nowhere) e
        ∙ ap (work w.a w.ip) (sym (done-nowhere w.stop (ap (λ (d : Decomposition A). d.answer) e)))

    error-stops : {e : DecompositionError} → decomposition (Err e) a ip ≡ answered kind n w → goes_on w.stop ≡ false
    unfolding answered
    error-stops d = error-column w.stop (ap (λ (d : Decomposition A). d.answer) d)

  -- ---- the passes

  module _ (k : ℕ) (a : A) (ip : List ℕ) {a' : A} {ip' : List ℕ} where
    pub went_on : decomposition (Ok tt) a' ip' ≡ answered kind n (passed kind n k a ip)
        → work a' ip' nowhere ≡ pass_at kind n k (work a ip nowhere)
    unfolding pass_at
    went_on d = yes _ _ _ refl (done-is (passed kind n k a ip) d)

    -- what stopped in pass k is not changed after it
    pub ends-within : {P : Work A → Type 0} {hi : ℕ} {s : Work A} {e : DecompositionError}
        → Ran (pass_at kind n) P 0 hi k s (work a ip nowhere) → k < hi
        → decomposition (Err e) a' ip' ≡ answered kind n (passed kind n k a ip)
        → decomposition (Err e) a' ip' ≡ answered kind n (last_tested kind n (loop (pass_at kind n) 0 hi s))
    unfolding pass_at last_tested
    ends-within r l d =
        let w = passed kind n k a ip in
        let off = error-stops w d in
        d ∙ ap (answered kind n) (no _ _ _ off refl)
        ∙ ap (λ (w : Work A). answered kind n (last_tested kind n w))
        (stopped r l (yes _ _ _ refl refl) (λ j. pick_no _ _ off))

  module _ (a : A) (ip : List ℕ) where
    module _ {w : Work A} (e : work a ip nowhere ≡ w) where
      pub ends-zero : kind.is_zero (kind.at a n (n - 1) (n - 1)) ≡ true
          → decomposition (Err (Singular (n - 1))) a ip ≡ answered kind n (last_tested kind n w)
      unfolding answered last_tested
      ends-zero z = ap (answered kind n) (yes _ _ _ refl (yes _ _ _ z refl) ∙ ap (last_tested kind n) e)

      pub ends-done : kind.is_zero (kind.at a n (n - 1) (n - 1)) ≡ false
          → decomposition (Ok tt) a ip ≡ answered kind n (last_tested kind n w)
      unfolding answered last_tested
      ends-done z = ap (answered kind n) (yes _ _ _ refl (no _ _ _ z refl) ∙ ap (last_tested kind n) e)

    -- ---- the whole

    pub one-zero : eqb n 1 ≡ true → kind.is_zero (kind.at a n 0 0) ≡ true
        → decomposition (Err (Singular 0)) a ip ≡ answered kind n (worked kind n a ip)
    unfolding answered worked single
    one-zero o z = ap (answered kind n) (yes _ _ _ o (yes _ _ _ z refl))

    pub one-done : eqb n 1 ≡ true → kind.is_zero (kind.at a n 0 0) ≡ false
        → decomposition (Ok tt) a (set ip 0 0) ≡ answered kind n (worked kind n a ip)
    unfolding answered worked single
    one-done o z = ap (answered kind n) (yes _ _ _ o (no _ _ _ z refl))

    pub several : {s : Decomposition A} → eqb n 1 ≡ false
        → s ≡ answered kind n (last_tested kind n (loop (pass_at kind n) 0 (n - 1) (work a ip nowhere)))
        → s ≡ answered kind n (worked kind n a ip)
    unfolding worked
    several o e = e ∙ ap (answered kind n) (no _ _ _ o refl)
