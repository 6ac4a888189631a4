-- Where this port's code goes another way than lu.rs and linear.rs, which no offered contract speaks of:
--     a real update goes row by row, along contiguous memory, where lu.rs goes column by column, and past the
--     last multiplier that is not zero it doesn't go at all (proofs/Rows.antt: the matrix is the same) a complex
--     update is one loop that asks for the multiplier's case in each turn, where lu.rs has three loops
--     (proofs/Cases.antt: the same) a back phase goes row by row, where linear.rs goes column by column
--     (proofs/Backward.antt: the right side is the same) a step of the real forward phase reads b[k] once, where
--     linear.rs reads it in each turn (proofs/Sides.antt: the same)
use Rattle.std.specs.Prelude.{ℕ, ◌+◌, ◌-◌, ◌≤◌, ◌<◌, ◌≡◌, List, get_or, set, Float}
use Rattle.std.specs.Float.Ieee.{neg, eq, ne}
use Rattle.words.specs.Words.{◌⊕◌, ◌⊗◌, ◌⊘◌, ◌!◌}
use Rattle.words.specs.Constants.{«0·0»}
use Rattle.words.specs.Loop.{loop, pick}
use Rattle.words.specs.Grid.{at}
use Rattle.matrix.specs.declared.complex.Complex.{Complex}
use Rattle.matrix.specs.Complex.{complex, Parts, at_complex, entry_complex, set_complex}
use Rattle.matrix.specs.Complex.{negated_complex, plus_complex, times_complex, over_complex}
use Rattle.matrix.specs.Elimination.{Kind}
use Rattle.matrix.specs.LuComplex.{added_complex}
use Rattle.matrix.specs.Substitution.{exchanged}

-- `entry x t y` is what y, in row i and column j, becomes, where x stands in column k of its row and
-- t in row k of its column
module _ {A E : Type 0} (kind : Kind A E) (entry : E → E → E → E) (n k : ℕ) where
  unfoldable pub cell_at : ℕ → ℕ → A → A
  cell_at i j a = kind.put a n i j (entry (kind.at a n i k) (kind.at a n k j) (kind.at a n i j))

  unfoldable pub row_at : ℕ → A → A
  row_at i a = loop (cell_at i) (k + 1) n a

-- from column `end` on, row k's entries as multipliers change nothing
pub record IdleFrom {A E : Type 0} (kind : Kind A E) (entry : E → E → E → E) (n k end : ℕ) (a : A) : Type 0 where
  pub low : k + 1 ≤ end
  pub high : end ≤ n
  pub still : (j : ℕ) → end ≤ j → j < n → (x y : E) → entry x (kind.at a n k j) y ≡ y

-- a real entry (lu.rs:113-115)
unfoldable pub added_of : Float → Float → Float → Float
added_of x t y = pick (ne t «0·0») (y ⊕ x ⊗ t) y

-- x times a complex multiplier, of which a part that is zero is left out (lu.rs:271-291)
unfoldable pub multiplied_of : Complex → Complex → Complex
multiplied_of t x =
    pick (eq t.im «0·0») (complex (x.re ⊗ t.re) (x.im ⊗ t.re))
    (pick (eq t.re «0·0») (complex (neg x.im ⊗ t.im) (x.re ⊗ t.im)) (times_complex x t))

unfoldable pub multiplied_at : ℕ → ℕ → ℕ → Complex → ℕ → Parts → Parts
multiplied_at n k j t i a = added_complex n i j a (multiplied_of t (at_complex a n i k))

-- ---- the phases of a solution, with the lines of linear.rs for both kinds: (real; complex)

-- How the phases read and write a right side B of entries E, beside a matrix A.
pub record Entries (A B E : Type 0) : Type 0 where
  -- `cell a n i k`: the matrix's entry in row i, column k of n
  pub cell : A → ℕ → ℕ → ℕ → E
  -- `at b i` and `put b i x`: the right side's entry i, and the right side with x there
  pub at : B → ℕ → E
  pub put : B → ℕ → E → B
  -- `more s x y` and `less s x y`: what s becomes where it gains or loses x times y (75; 178-181), (88; 197-205)
  pub more : E → E → E → E
  pub less : E → E → E → E
  -- `over x z`: x over z (84, 93; 190-192, 210-212)
  pub over : E → E → E

abbrev pub real_entries : Entries (List Float) (List Float) Float
real_entries =
    record {
      cell = at;
      at = ◌!◌;
      put = set;
      more = λ (s x y : Float). s ⊕ x ⊗ y;
      less = λ (s x y : Float). s ⊕ x ⊗ neg y;
      over = ◌⊘◌;
    }

abbrev pub complex_entries : Entries Parts Parts Complex
complex_entries =
    record {
      cell = at_complex;
      at = entry_complex;
      put = set_complex;
      more = λ (s x y : Complex). plus_complex s (times_complex x y);
      less = λ (s x y : Complex). plus_complex s (times_complex x (negated_complex y));
      over = over_complex;
    }

module _ {A B E : Type 0} (entries : Entries A B E) (a : A) (n : ℕ) where
  -- step k of the forward phase, its pivot in row m: t, which was entry m, is entry k in every turn
  unfoldable pub gained_at : ℕ → E → ℕ → B → B
  gained_at k t i b = entries.put b i (entries.more (entries.at b i) (entries.cell a n i k) t)

  unfoldable pub stepped : ℕ → ℕ → B → B
  stepped k m b = loop (gained_at k (entries.at b m)) (k + 1) n (exchanged entries.at entries.put m k b)

  unfoldable pub stepped_at : List ℕ → ℕ → B → B
  stepped_at ip k b = stepped k (get_or ip k 0) b

  -- row n - ib: the terms of linear.rs in its order, the last entry's first, then the division
  unfoldable pub sum_at : ℕ → B → ℕ → E → E
  sum_at i b kb s = entries.less s (entries.cell a n i (n - kb)) (entries.at b (n - kb))

  unfoldable pub row_solved_at : ℕ → B → B
  row_solved_at ib b =
      entries.put b (n - ib)
      (entries.over (loop (sum_at (n - ib) b) 1 ib (entries.at b (n - ib))) (entries.cell a n (n - ib) (n - ib)))

  -- both phases
  unfoldable pub solved_by_rows : List ℕ → B → B
  solved_by_rows ip b = loop row_solved_at 1 (n + 1) (loop (stepped_at ip) 0 (n - 1) b)
