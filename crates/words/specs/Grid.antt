-- An n by n matrix of doubles, row by row in one list: the Rust's `a[(i, k)]` on a flat part of lent
-- memory, with n from 1 to 32.
use Rattle.std.specs.Prelude.{ℕ, ◌+◌, ◌*◌, ◌≤◌, ◌≡◌, List, length, get_or, set, Float}
use Rattle.std.specs.Float.{nan}

-- a has the n * n entries of such a matrix
pub record Square (n : ℕ) (a : List Float) : Type 0 where
  pub small : n ≤ 32
  pub full : length a ≡ n * n

-- the entry in row i, column k
unfoldable pub at : List Float → ℕ → ℕ → ℕ → Float
at a n i k = get_or a (i * n + k) nan

-- the matrix with v put there
unfoldable pub put : List Float → ℕ → ℕ → ℕ → Float → List Float
put a n i k v = set a (i * n + k) v
