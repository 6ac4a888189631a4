-- What one step of the code hands to the next, in roots.rt, square_root.rt and digits.rt. Contracts of private
-- functions cite these; no promise does.
use Rattle.std.specs.Prelude.{ℕ, ◌+◌, ◌-◌, ◌*◌, ◌%◌, ◌^◌, ◌≤◌, ◌<◌, ◌≡◌, Bool, true, false, T}
use Rattle.std.specs.Prelude.{Option, Some, None, Float}
use Rattle.std.specs.Float.Ieee.Positive.{positive}
use Rattle.words.specs.Patterns.{units_in_one, infinity_pattern}
use Rattle.scalar.specs.Root.{keeps}

-- v is positive and finite, and m an order that has a root
pub record Ordered (m : ℕ) (v : Float) : Type 0 where
  pub low : 1 ≤ m
  pub high : m ≤ 17
  pub above : T (positive v)

-- the pattern of v's root of order m lies from low on and below high
pub record Ends (m : ℕ) (v : Float) (low high : ℕ) : Type 0 where
  pub ordered : Ordered m v
  pub order : low < high
  pub under : high ≤ infinity_pattern
  pub kept : keeps m v low ≡ true
  pub not-kept : high < infinity_pattern → keeps m v high ≡ false

-- what the test says of the pattern g and its two neighbours
pub record Seen (m : ℕ) (v : Float) (g : ℕ) (below here next : Bool) : Type 0 where
  pub ordered : Ordered m v
  pub some : 0 < g
  pub under : g < infinity_pattern
  pub is_below : below ≡ keeps m v (g - 1)
  pub is-here : here ≡ keeps m v g
  pub is-next : next ≡ keeps m v (g + 1)

-- u units are m * 2 ^ w squares of a unit, m having 53 digits
pub record FullWidth (u m w : ℕ) : Type 0 where
  pub same : m * 2 ^ w ≡ u * units_in_one
  pub full : 2 ^ 52 ≤ m
  pub fits : m < 2 ^ 53
  pub least : 1021 < w
  pub most : w < 4000

-- the same with w even, so that 2 ^ w has a root: m has 53 or 54 digits
pub record EvenPlace (u m w : ℕ) : Type 0 where
  pub same : m * 2 ^ w ≡ u * units_in_one
  pub full : 2 ^ 52 ≤ m
  pub fits : m < 2 ^ 54
  pub even : w % 2 ≡ 0
  pub least : 1020 ≤ w
  pub most : w < 4000

-- q is the root of n cut to a whole number, and r what n has beyond its square
pub record Digits (n q r : ℕ) : Type 0 where
  pub sum : q * q + r ≡ n
  pub left : r ≤ 2 * q

-- q is that root, or one less
pub record Near (n q r : ℕ) : Type 0 where
  pub sum : q * q + r ≡ n
  pub left : r ≤ 4 * q + 3

-- what m * 2 ^ 52 has beyond the square of q, where it was found to be small
unfoldable pub Remains : ℕ → ℕ → Option ℕ → Type 0
Remains m q (Some r) = Near (m * 2 ^ 52) q r
Remains m q None = Unit
