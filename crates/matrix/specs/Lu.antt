-- `lu_decomp` (lu.rs:37-127): the arithmetic of real entries, and the routine with its refusals.
use Rattle.std.specs.Prelude.{ℕ, ◌+◌, ◌*◌, Bool, ◌&&◌, List, eqb, leb, length, Err, Float}
use Rattle.std.specs.Float.Ieee.{neg, eq, ne}
use Rattle.words.specs.Words.{◌⊕◌, ◌⊗◌, ◌⊘◌}
use Rattle.words.specs.Constants.{«0·0», «1·0»}
use Rattle.words.specs.Loop.{loop, pick}
use Rattle.words.specs.Grid.{at, put}
use Rattle.scalar.specs.Order.{abs_of}
use Rattle.matrix.specs.declared.answers.DecompositionError.TheVariants as undone
use Rattle.matrix.specs.Answers.{Decomposition, decomposition}
use Rattle.matrix.specs.Elimination.{Kind, worked, answered}

-- [lu.rs:114-116]
unfoldable pub update_at : ℕ → ℕ → ℕ → Float → ℕ → List Float → List Float
update_at n k j t i a = put a n i j (at a n i j ⊕ at a n i k ⊗ t)

-- a zero multiplier changes nothing, a NaN isn't zero [lu.rs:112-113]
unfoldable pub updated : ℕ → ℕ → ℕ → Float → List Float → List Float
updated n k j t a = pick (ne t «0·0») (loop (update_at n k j t) (k + 1) n a) a

-- 1.0 over the pivot [lu.rs:94-95]
unfoldable pub reciprocal : Float → Float
reciprocal pivot = «1·0» ⊘ pivot

-- [lu.rs:97]
unfoldable pub multiplier : Float → Float → Float
multiplier x t = neg x ⊗ t

-- the test of a pivot (lu.rs:56, 83, 122)
unfoldable pub is_zero : Float → Bool
is_zero x = eq x «0·0»

abbrev pub real : Kind (List Float) Float
real =
    record {
      at = at;
      put = put;
      size = abs_of;
      is_zero = is_zero;
      reciprocal = reciprocal;
      multiplier = multiplier;
      updated = updated;
    }

-- Refusals 1 and 16, then the work (01, 'Numbers that refuse') [lu.rs:37-53]
unfoldable pub lu_decomp_of : ℕ → List Float → List ℕ → Decomposition (List Float)
lu_decomp_of n a ip =
    pick (leb 1 n && leb n 32)
    (pick (eqb (length a) (n * n) && eqb (length ip) n)
    (answered real n (worked real n a ip))
    (decomposition (Err undone.Length) a ip))
    (decomposition (Err undone.Order) a ip)
