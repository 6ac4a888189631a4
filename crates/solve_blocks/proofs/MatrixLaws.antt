-- What the loops that build the three matrices keep: each has n by n entries, which are at most 1,024.
use Prim.Native.Nat.{ℕ, ◌*◌, ◌≤◌}
use native.Mathlib.Nat.{mul-le-mul}
use Rattle.words.specs.Grid.{Square}
use Rattle.solve_blocks.specs.Entries.{Three}

pub record Squares (n : ℕ) (e : Three) : Type 0 where
  pub one : Square n e.one
  pub two : Square n e.two
  pub three : Square n e.three

pub at_most : (n : ℕ) → n ≤ 32 → n * n ≤ 1024
at_most n h = mul-le-mul h h
