-- The entries of a matrix as places: what a store leaves alone, and that stores at two places may change turns.
-- `Lawful` is what proofs/Rows.antt asks of a kind of matrix; real matrices obey it (`real-lawful`).
use Prim.Native.Nat.{ℕ, ◌+◌, ◌*◌, ◌-◌, ◌≤◌, ◌<◌, ◌%◌}
use mathlib.Core.Bool.{Bool, true, false}
use mathlib.Core.Logic.{◌≢◌, ⊎_elim}
use mathlib.Core.Path.{◌≡◌, refl, sym, ap, ◌∙◌}
use mathlib.Core.List.{List}
use native.Mathlib.Nat.{mul-le-mul_right, suc-mul, mul-add-mod_self_right, mod-eq_of_lt, eq-or-lt_of_le}
use native.Mathlib.Omega.{arith}
use lib.ListN.{length-set}
use lib.Seq.{get_or-set_same, get_or-set_other, set-get_or, set_comm}
use lib.Ieee.{Float, nan, ne}
use Rattle.words.specs.Words.{double}
use Rattle.words.specs.Loop.{loop, pick}
use Rattle.words.specs.Grid.{Square, at, put}
use Rattle.words.proofs.Branch.{pick_no}
use Rattle.words.proofs.Loops.{Any}
use Rattle.words.proofs.Grid.{cell}
use Rattle.matrix.specs.Elimination.{Kind}
use Rattle.matrix.specs.Lu.{real, update_at, updated}
use Rattle.matrix.specs.Reordered.{IdleFrom, added_of}
use Rattle.matrix.proofs.Interchange.{alike, idle, hoisted}

-- ---- places

pub columns-apart : (n i k p q : ℕ) → k < n → q < n → k ≢ q → i * n + k ≢ p * n + q
columns-apart n i k p q hk hq h e =
    h
    (sym (mod-eq_of_lt hk) ∙ sym (mul-add-mod_self_right i n k)
    ∙ ap (λ (x : ℕ). x % n) e ∙ mul-add-mod_self_right p n q ∙ mod-eq_of_lt hq)

pub rows_apart : (n i k p q : ℕ) → k < n → i < p → i * n + k ≢ p * n + q
rows_apart n i k p q hk h e = omega (arith, mul-le-mul_right n h, suc-mul i n)

-- ---- the laws of a kind

-- P n a: a is a matrix of order n. `entry x t y` is as in specs/Reordered.antt
pub record Lawful {A E : Type 0} (kind : Kind A E) (P : ℕ → A → Type 0) (entry : E → E → E → E) : Type 0 where
  pub other : (a : A) (n i k p q : ℕ) (x : E) → p * n + q ≢ i * n + k
      → kind.at (kind.put a n i k x) n p q ≡ kind.at a n p q
  pub commute : (a : A) (n i k p q : ℕ) (x y : E) → i * n + k ≢ p * n + q
      → kind.put (kind.put a n i k x) n p q y ≡ kind.put (kind.put a n p q y) n i k x
  pub same : (a : A) (n i k : ℕ) (x : E) → P n a → i < n → k < n → kind.at (kind.put a n i k x) n i k ≡ x
  pub kept : (a : A) (n i k : ℕ) (x : E) → P n a → P n (kind.put a n i k x)
  -- an entry put back where it stands
  pub back : (a : A) (n i k : ℕ) → kind.put a n i k (kind.at a n i k) ≡ a
  -- a column's update is one entry after the other, its multiplier t fixed
  pub fixed : (a : A) (n k j : ℕ) (t : E) → k < n
      → kind.updated n k j t a
      ≡ loop (λ (i : ℕ) (s : A). kind.put s n i j (entry (kind.at s n i k) t (kind.at s n i j))) (k + 1) n a

-- ---- real matrices

kept_real : (a : List Float) (n i k : ℕ) (x : Float) → Square n a → Square n (put a n i k x)
unfolding put
kept_real a n i k x s = record { small = s.small; full = length-set a (i * n + k) x ∙ s.full }

same-real : (a : List Float) (n i k : ℕ) (x : Float) → Square n a → i < n → k < n → at (put a n i k x) n i k ≡ x
unfolding at put
same-real a n i k x s hi hk = get_or-set_same a (i * n + k) x nan (omega (arith, cell n i k hi hk s.small))

other-real : (a : List Float) (n i k p q : ℕ) (x : Float) → p * n + q ≢ i * n + k
    → at (put a n i k x) n p q ≡ at a n p q
unfolding at put
other-real a n i k p q x h = get_or-set_other a (i * n + k) (p * n + q) x nan h

commute-real : (a : List Float) (n i k p q : ℕ) (x y : Float) → i * n + k ≢ p * n + q
    → put (put a n i k x) n p q y ≡ put (put a n p q y) n i k x
unfolding put
commute-real a n i k p q x y h = set_comm a (i * n + k) (p * n + q) x y h

back-real : (a : List Float) (n i k : ℕ) → put a n i k (at a n i k) ≡ a
unfolding at put
back-real a n i k = set-get_or a (i * n + k) nan

-- a branch around a store is a store of a branch
stored-real : (b : Bool) (a : List Float) (n i k : ℕ) (x : Float)
    → pick b (put a n i k x) a ≡ put a n i k (pick b x (at a n i k))
unfolding pick
stored-real true a n i k x = refl
stored-real false a n i k x = sym (back-real a n i k)

fixed-real : (a : List Float) (n k j : ℕ) (t : Float) → k < n
    → updated n k j t a
    ≡ loop (λ (i : ℕ) (s : List Float). put s n i j (added_of (at s n i k) t (at s n i j))) (k + 1) n a
unfolding updated update_at added_of
fixed-real a n k j t h =
    let low : k + 1 ≤ n = omega arith in
    ap (λ (s : List Float). pick (ne t (double 0)) (loop (update_at n k j t) (k + 1) n a) s)
    (sym (idle (λ (i : ℕ) (s : List Float). s) (k + 1) n low (λ i s. refl) a))
    ∙ hoisted (ne t (double 0)) (update_at n k j t) (λ (i : ℕ) (s : List Float). s) (k + 1) n a
    ∙ alike Any (λ (i : ℕ) (s : List Float). pick (ne t (double 0)) (update_at n k j t i s) s)
    (λ (i : ℕ) (s : List Float). put s n i j (added_of (at s n i k) t (at s n i j))) (k + 1) n low (λ i l₁ l₂ s q. tt)
    (λ i l₁ l₂ s q. stored-real (ne t (double 0)) s n i j _) a tt

pub real-lawful : Lawful real Square added_of
real-lawful = record {
  other = other-real;
  commute = commute-real;
  same = same-real;
  kept = kept_real;
  back = back-real;
  fixed = fixed-real;
}

-- ---- zero multipliers of a real matrix, from the right

-- past the last column there is none
pub none-idle : (a : List Float) (n k : ℕ) → k < n → IdleFrom real added_of n k n a
none-idle a n k h = record { low = omega arith; high = omega arith; still = λ j l u x y. absurd (omega arith) }

-- one column more
pub more-idle : (a : List Float) (n k end : ℕ) → IdleFrom real added_of n k end a → k + 1 < end
    → ne (at a n k (end - 1)) (double 0) ≡ false
    → IdleFrom real added_of n k (end - 1) a
unfolding added_of
more-idle a n k end q h e =
    record {
      low = omega arith;
      high = omega (arith, q.high);
      still =
          λ j l u x y.
          ⊎_elim
          (λ (s : end - 1 ≡ j). pick_no _ _ (ap (λ (c : ℕ). ne (at a n k c) (double 0)) (sym s) ∙ e))
          (λ (s : end - 1 < j). q.still j (omega arith) u x y) (eq-or-lt_of_le l);
    }
