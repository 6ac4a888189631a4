-- Row i, column k of an n by n matrix lies within its n * n entries, of which there are at most 1,024.
-- Handed to `omega`, `cell n i k` answers the four needs of the code's `a[i * n + k]`.
use Prim.Native.Nat.{ℕ, ◌+◌, ◌*◌, ◌≤◌, ◌<◌}
use native.Mathlib.Nat.{mul-le-mul, mul-le-mul_right, suc-mul}
use native.Mathlib.Omega.{arith}

pub record Cell (n i k : ℕ) : Type 0 where
  pub inside : i * n + k < n * n
  pub small : n * n ≤ 1024

pub cell : (n i k : ℕ) → i < n → k < n → n ≤ 32 → Cell n i k
cell n i k hi hk hn = record { inside = omega (arith, mul-le-mul_right n hi, suc-mul i n); small = mul-le-mul hn hn }
