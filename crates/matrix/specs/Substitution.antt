-- What linear.rs has twice, for a real right side (55-94) and for a complex one (138-215): the exchange of two entries,
-- the division by a diagonal entry, and the order of the three phases. Lines are cited for both, the real ones first.
use Rattle.std.specs.Prelude.{ℕ, ◌-◌, List, eqb, get_or}
use Rattle.words.specs.Loop.{loop, pick}

-- entries m and k change places, `at` and `put` being how an entry is read and written
-- [linear.rs:70-71] [alike linear.rs:165-173]
unfoldable pub exchanged : {B E : Type 0} → (B → ℕ → E) → (B → ℕ → E → B) → ℕ → ℕ → B → B
exchanged at put m k b = put (put b m (at b k)) k (at b m)

-- A kind of right side B, beside a matrix A.
pub record Side (A B : Type 0) : Type 0 where
  -- `divided a n k b`: b with entry k divided by the matrix's diagonal entry (60, 84, 93; 149-154, 189-194, 209-214)
  pub divided : A → ℕ → ℕ → B → B
  -- `forward a n k m b`: step k of the forward phase, its pivot in row m (68-76; 162-182)
  pub forward : A → ℕ → ℕ → ℕ → B → B
  -- `back a n k b`: what entry k takes from those above it (86-89; 196-206)
  pub back : A → ℕ → ℕ → B → B

module _ {A B : Type 0} (side : Side A B) (a : A) (n : ℕ) where
  -- forward elimination [linear.rs:66-68] [alike linear.rs:160-163]
  unfoldable pub forward_at : List ℕ → ℕ → B → B
  forward_at ip k b = side.forward a n k (get_or ip k 0) b

  -- back substitution, in row n - kb [linear.rs:79-81] [again linear.rs:185-187]
  unfoldable pub back_at : ℕ → B → B
  back_at kb b = side.back a n (n - kb) (side.divided a n (n - kb) b)

  -- the three phases [linear.rs:64] [again linear.rs:158] (64-93; 158-214)
  unfoldable pub substituted : List ℕ → B → B
  substituted ip b = side.divided a n 0 (loop back_at 1 n (loop (forward_at ip) 0 (n - 1) b))

  -- and n = 1 [linear.rs:58-62] [alike linear.rs:147-156]
  unfoldable pub solved : List ℕ → B → B
  solved ip b = pick (eqb n 1) (side.divided a n 0 b) (substituted ip b)
