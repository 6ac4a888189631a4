-- Three lists of n entries each, and that they stay so where each gets one entry set: what the turns
-- of the Newton loops keep.
use Prim.Native.Nat.{ℕ}
use mathlib.Core.Path.{◌≡◌, ◌∙◌}
use lib.ListN.{length, length-set, set}
use lib.Ieee.{Float}
use Rattle.solve_blocks.specs.Entries.{Three, three}

pub record ThreeLong (n : ℕ) (z : Three) : Type 0 where
  pub one : length z.one ≡ n
  pub two : length z.two ≡ n
  pub three : length z.three ≡ n

pub three-set : {n : ℕ} {z : Three} (i : ℕ) (u v w : Float) → ThreeLong n z
    → ThreeLong n (three (set z.one i u) (set z.two i v) (set z.three i w))
three-set {n} {z} i u v w l =
    record {
      one = length-set z.one i u ∙ l.one;
      two = length-set z.two i v ∙ l.two;
      three = length-set z.three i w ∙ l.three;
    }
