-- Elimination with partial pivoting, operation by operation, as lu.rs has it twice: in lines 55-126 for a real matrix
-- and again in 198-305 for a complex one. The two differ in the arithmetic of an entry alone, so that is handed in, as
-- a `Kind`; Lu.antt and LuComplex.antt give the two kinds. Lines are cited for both, the real ones first.
use Rattle.std.specs.Prelude.{ℕ, ◌+◌, ◌-◌, Bool, true, false, List, eqb, set, Float}
use Rattle.std.specs.Float.Ieee.{lt}
use Rattle.words.specs.Loop.{loop, pick}
use Rattle.matrix.specs.Answers.{Stop, nowhere, column, Decomposition, decomposition, stop_answer}

-- A kind of matrix A with entries E.
pub record Kind (A E : Type 0) : Type 0 where
  -- `at a n i k` and `put a n i k x`: the entry in row i, column k of n, and the matrix with x there
  pub at : A → ℕ → ℕ → ℕ → E
  pub put : A → ℕ → ℕ → ℕ → E → A
  -- what the search compares, and the test for a zero pivot
  pub size : E → Float
  pub is_zero : E → Bool
  -- `reciprocal pivot` is t, and `multiplier x t` what a row stores in place of x
  pub reciprocal : E → E
  pub multiplier : E → E → E
  -- `updated n k j t a`: column j with t times column k added, below row k
  pub updated : ℕ → ℕ → ℕ → E → A → A

-- the search's `m` and `max_val`
pub record Best : Type 0 where
  pub row : ℕ
  pub size : Float

abbrev pub best : ℕ → Float → Best
best row size = record { row = row; size = size }

-- the matrix, the pivots, and where elimination stopped
pub record Work (A : Type 0) : Type 0 where
  pub a : A
  pub ip : List ℕ
  pub stop : Stop

abbrev pub work : {A : Type 0} → A → List ℕ → Stop → Work A
work a ip stop = record { a = a; ip = ip; stop = stop }

abbrev pub goes_on : Stop → Bool
goes_on nowhere = true
goes_on (column k) = false

module _ {A E : Type 0} (kind : Kind A E) (n : ℕ) where
  -- the search: the first of the largest in column k, from row k on; a NaN is never larger
  -- [lu.rs:70-76] [alike lu.rs:213-219]
  unfoldable pub better_at : A → ℕ → ℕ → Best → Best
  better_at a k i b = pick (lt b.size (kind.size (kind.at a n i k))) (best i (kind.size (kind.at a n i k))) b

  -- [lu.rs:67-69] [alike lu.rs:210-212]
  unfoldable pub pivot_row : A → ℕ → ℕ
  pivot_row a k = (loop (better_at a k) (k + 1) n (best k (kind.size (kind.at a n k k)))).row

  -- rows m and k change places in column j, if they are two
  -- [lu.rs:87-92] [alike lu.rs:105-110] [alike lu.rs:231-239] [alike lu.rs:260-268]
  unfoldable pub swapped : ℕ → ℕ → ℕ → A → A
  swapped k m j a = pick (eqb m k) a (kind.put (kind.put a n m j (kind.at a n k j)) n k j (kind.at a n m j))

  -- column k stores the negative multipliers [lu.rs:96] [again lu.rs:246-247]
  unfoldable pub scaled_at : ℕ → E → ℕ → A → A
  scaled_at k t i a = kind.put a n i k (kind.multiplier (kind.at a n i k) t)

  -- column j: its multiplier is what stood in row m before the rows change places
  -- [lu.rs:100-103] [alike lu.rs:254-258]
  unfoldable pub column_at : ℕ → ℕ → ℕ → A → A
  column_at k m j a = kind.updated n k j (kind.at a n m j) (swapped k m j a)

  -- one pass, its pivot in row m (lu.rs:87-118; 231-297)
  unfoldable pub eliminated : ℕ → ℕ → A → A
  eliminated k m a =
      loop (column_at k m) (k + 1) n
      (loop (scaled_at k (kind.reciprocal (kind.at a n m k))) (k + 1) n (swapped k m k a))

  -- pass k: the pivot is noted before it is tested [lu.rs:78-85] [alike lu.rs:221-229]
  unfoldable pub pass_with : ℕ → ℕ → A → List ℕ → Work A
  pass_with k m a ip =
      pick (kind.is_zero (kind.at a n m k)) (work a (set ip k m) (column k))
      (work (eliminated k m a) (set ip k m) nowhere)

  -- `kp1` is k + 1 here [lu.rs:65] [again lu.rs:208]
  unfoldable pub passed : ℕ → A → List ℕ → Work A
  passed k a ip = pass_with k (pivot_row a k) a ip

  -- the passes, up to the first zero pivot (lu.rs:63-119; 206-298)
  unfoldable pub pass_at : ℕ → Work A → Work A
  pass_at k w = pick (goes_on w.stop) (passed k w.a w.ip) w

  -- the last diagonal entry [lu.rs:121-124] [alike lu.rs:300-303]
  unfoldable pub last_tested : Work A → Work A
  last_tested w =
      pick (goes_on w.stop)
      (pick (kind.is_zero (kind.at w.a n (n - 1) (n - 1))) (work w.a w.ip (column (n - 1))) w)
      w

  -- n = 1 [lu.rs:55-61] [alike lu.rs:198-204]
  unfoldable pub single : A → List ℕ → Work A
  single a ip = pick (kind.is_zero (kind.at a n 0 0)) (work a ip (column 0)) (work a (set ip 0 0) nowhere)

  -- [lu.rs:63-64] [again lu.rs:206-207]
  unfoldable pub worked : A → List ℕ → Work A
  worked a ip = pick (eqb n 1) (single a ip) (last_tested (loop pass_at 0 (n - 1) (work a ip nowhere)))

  -- the answer, which tells the stop's column (02, [3]); the Rust's tells only that there is one [lu.rs:126]
  -- [again lu.rs:305]
  unfoldable pub answered : Work A → Decomposition A
  answered w = decomposition (stop_answer w.stop) w.a w.ip
