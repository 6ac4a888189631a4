-- `lu_decomp_complex` (lu.rs:180-306): the arithmetic of complex entries, and the routine with its refusals.
use Rattle.std.specs.Prelude.{ℕ, ◌+◌, ◌*◌, Bool, ◌&&◌, List, eqb, leb, length, Err, Float}
use Rattle.std.specs.Float.Ieee.{neg, eq, ne}
use Rattle.words.specs.Words.{◌⊗◌}
use Rattle.words.specs.Constants.{«0·0»}
use Rattle.words.specs.Loop.{loop, pick}
use Rattle.matrix.specs.declared.complex.Complex.{Complex}
use Rattle.matrix.specs.declared.answers.DecompositionError.TheVariants as undone
use Rattle.matrix.specs.Answers.{Decomposition, decomposition}
use Rattle.matrix.specs.Complex.{complex, Parts, at_complex, put_complex, size_complex}
use Rattle.matrix.specs.Complex.{negated_complex, plus_complex, times_complex, reciprocal_complex}
use Rattle.matrix.specs.Elimination.{Kind, worked, answered}

-- p is added in row i, column j [lu.rs:276-277] [again lu.rs:284-285] [again lu.rs:292-293]
unfoldable pub added_complex : ℕ → ℕ → ℕ → Parts → Complex → Parts
added_complex n i j a p = put_complex a n i j (plus_complex (at_complex a n i j) p)

-- real multiplier [lu.rs:272-275]
unfoldable pub real_at : ℕ → ℕ → ℕ → Float → ℕ → Parts → Parts
real_at n k j mr i a = added_complex n i j a (complex ((at_complex a n i k).re ⊗ mr) ((at_complex a n i k).im ⊗ mr))

-- imaginary-only multiplier [lu.rs:279-283]
unfoldable pub imaginary_at : ℕ → ℕ → ℕ → Float → ℕ → Parts → Parts
imaginary_at n k j mi i a =
    added_complex n i j a (complex (neg (at_complex a n i k).im ⊗ mi) ((at_complex a n i k).re ⊗ mi))

-- general complex multiplier [lu.rs:287-289]
unfoldable pub general_at : ℕ → ℕ → ℕ → Complex → ℕ → Parts → Parts
general_at n k j t i a = added_complex n i j a (times_complex (at_complex a n i k) t)

-- which of the three loops runs [lu.rs:270-271]
unfoldable pub updated_complex : ℕ → ℕ → ℕ → Complex → Parts → Parts
updated_complex n k j t a =
    pick (ne (size_complex t) «0·0»)
    (pick (eq t.im «0·0») (loop (real_at n k j t.re) (k + 1) n a)
    (pick (eq t.re «0·0») (loop (imaginary_at n k j t.im) (k + 1) n a)
    (loop (general_at n k j t) (k + 1) n a)))
    a

-- [lu.rs:250-251]
unfoldable pub multiplier_complex : Complex → Complex → Complex
multiplier_complex x t = negated_complex (times_complex x t)

-- the test of a pivot (lu.rs:199, 227, 301)
unfoldable pub is_zero_complex : Complex → Bool
is_zero_complex z = eq (size_complex z) «0·0»

abbrev pub complex_kind : Kind Parts Complex
complex_kind =
    record {
      at = at_complex;
      put = put_complex;
      size = size_complex;
      is_zero = is_zero_complex;
      reciprocal = reciprocal_complex;
      multiplier = multiplier_complex;
      updated = updated_complex;
    }

-- Refusals 1 and 16, then the work (01, 'Numbers that refuse') [lu.rs:180-196]
unfoldable pub lu_decomp_complex_of : ℕ → Parts → List ℕ → Decomposition Parts
lu_decomp_complex_of n a ip =
    pick (leb 1 n && leb n 32)
    (pick (eqb (length a.re) (n * n) && eqb (length a.im) (n * n) && eqb (length ip) n)
    (answered complex_kind n (worked complex_kind n a ip))
    (decomposition (Err undone.Length) a ip))
    (decomposition (Err undone.Order) a ip)
