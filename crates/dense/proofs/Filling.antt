-- A loop that puts v i at each place i below n: it keeps the length and what stands from n on, and in the end v k
-- stands at each place k below n.
use Prim.Native.Nat.{ℕ, zero, suc, ◌≤◌, ◌<◌}
use mathlib.Core.Path.{◌≡◌, sym, ap, ◌∙◌}
use mathlib.Core.List.{List}
use mathlib.Core.Logic.{⊎_elim}
use native.Mathlib.Nat.{eq-or-lt_of_le}
use native.Mathlib.Numerals.{add-one}
use native.Mathlib.Omega.{arith}
use lib.ListN.{length, get_or, set, length-set}
use lib.Seq.{get_or-set_same, get_or-set_other}
use Rattle.words.specs.Loop.{loop}
use Rattle.words.proofs.Loops.{loop-none, loop-more}

module _ {A : Type 0} (v : ℕ → A) where
  abbrev pub fill_at : ℕ → List A → List A
  fill_at i xs = set xs i (v i)

module _ {A : Type 0} (v : ℕ → A) (xs : List A) where
  -- the list after n turns, and after one more
  abbrev filled : ℕ → List A
  filled n = loop (fill_at v) 0 n xs

  more : (n : ℕ) → filled (suc n) ≡ set (filled n) n (v n)
  more n = ap filled (sym (add-one n)) ∙ loop-more (fill_at v) 0 n xs (omega arith)

  pub filled-length : (n : ℕ) → length (filled n) ≡ length xs
  filled-length zero = ap length (loop-none (fill_at v) 0 xs)
  filled-length (suc n) = ap length (more n) ∙ length-set (filled n) n (v n) ∙ filled-length n

  module _ (default : A) where
    pub filled-rest : (n k : ℕ) → n ≤ k → get_or (filled n) k default ≡ get_or xs k default
    filled-rest zero k h = ap (λ (ys : List A). get_or ys k default) (loop-none (fill_at v) 0 xs)
    filled-rest (suc n) k h =
        ap (λ (ys : List A). get_or ys k default) (more n)
        ∙ get_or-set_other (filled n) n k (v n) default (λ e. omega arith)
        ∙ filled-rest n k (omega arith)

    pub filled-place : (n k : ℕ) → k < n → n ≤ length xs → get_or (filled n) k default ≡ v k
    filled-place zero k h l = absurd (omega arith)
    filled-place (suc n) k h l =
        ap (λ (ys : List A). get_or ys k default) (more n)
        ∙ ⊎_elim
        (λ (e : k ≡ n). rw e (get_or-set_same (filled n) n (v n) default (omega (arith, filled-length n))))
        (λ (b : k < n). get_or-set_other (filled n) n k (v n) default (λ e. omega arith)
        ∙ filled-place n k b (omega arith))
        (eq-or-lt_of_le (omega arith))
