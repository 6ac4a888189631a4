-- The exact numbers that nine of the coefficients stand for, and what it means that a double is right for one: 01, 'The
-- node and error constants are checked against exact roots: with q the root of 6, C1=(4-q)/10, C2=(4+q)/10, C1M1=C1-1,
-- C2M1=C2-1, C1MC2=-q/5, DD1=-(13+7q)/3, DD2=(7q-13)/3, DD3=-1/3, each lying strictly between the neighbours of its
-- double; the cubic u^3-9u^2+36u-60 changes sign within two doubles either way of U1.' Every comparison is one of whole
-- numbers, in units of the smallest double.
use Rattle.std.specs.Prelude.{ℕ, suc, ◌+◌, ◌-◌, ◌*◌, ◌^◌, ◌≤◌, ◌<◌, Bool, true, false, ◌&&◌, List, [], ◌∷◌, T, ltb, ℤ}
use Rattle.std.specs.Prelude.{pos, negsuc, neg_ℤ, ◌-ℤ◌, ◌*ℤ◌, get_or, Option, Some, None, Float}
use Rattle.std.specs.Float.{binary64}
use Rattle.std.specs.Float.Ieee.{to_bits}
use Rattle.words.specs.Loop.{pick}
use Rattle.words.specs.Patterns.{units, units_in_one}

-- (a + b * q) / d; the root of the cubic; or no rule, where the source is copied
pub data Exact : Type 0 where
  surd : ℤ → ℤ → ℕ → Exact
  cubic : Exact
  copied : Exact

-- C1 C2 C1M1 C2M1 C1MC2 DD1 DD2 DD3 U1 (negsuc n is -(n + 1))
abbrev pub exacts : List Exact
exacts =
    surd (pos 4) (negsuc 0) 10
    ∷ surd (pos 4) (pos 1) 10
    ∷ surd (negsuc 5) (negsuc 0) 10
    ∷ surd (negsuc 5) (pos 1) 10
    ∷ surd (pos 0) (negsuc 0) 5
    ∷ surd (negsuc 12) (negsuc 6) 3
    ∷ surd (negsuc 12) (pos 7) 3
    ∷ surd (negsuc 0) (pos 0) 3
    ∷ cubic
    ∷ []

abbrev pub exact_at : ℕ → Exact
exact_at k = get_or exacts k copied

-- ---- a double as whole numbers

-- the pattern b as so many units, with the sign; and the pattern k places up or down in the order of the numbers
unfoldable pub signed_units : ℕ → ℤ
signed_units b = pick (ltb b (2 ^ 63)) (pos (units b)) (neg_ℤ (pos (units (b - 2 ^ 63))))

unfoldable pub up : ℕ → ℕ → ℕ
up k b = pick (ltb b (2 ^ 63)) (b + k) (b - k)

unfoldable pub down : ℕ → ℕ → ℕ
down k b = pick (ltb b (2 ^ 63)) (b - k) (b + k)

-- ---- a whole number of units held against an exact number

-- a + b * q is above 0: by the signs, and where they differ by the squares a * a and 6 * b * b
abbrev pub positive_surd : ℤ → ℤ → Bool
positive_surd (pos a) (pos b) = ltb 0 (a + b)
positive_surd (pos a) (negsuc b) = ltb (6 * (suc b * suc b)) (a * a)
positive_surd (negsuc a) (pos b) = ltb (suc a * suc a) (6 * (b * b))
positive_surd (negsuc a) (negsuc b) = false

abbrev pub positive_whole : ℤ → Bool
positive_whole a = positive_surd a (pos 0)

-- u^3 - 9 u^2 + 36 u - 60 at u = x units, in cubes of the unit
unfoldable pub cubic_at : ℤ → ℤ
cubic_at x =
    ((x -ℤ pos (9 * units_in_one)) *ℤ x -ℤ neg_ℤ (pos (36 * (units_in_one * units_in_one)))) *ℤ x -ℤ pos
    (60 * (units_in_one * units_in_one * units_in_one))

-- x units are less than the exact number; are more. The cubic is below 0 on the one side of its root
-- and above 0 on the other
unfoldable pub less : ℤ → Exact → Bool
less x (surd a b d) = positive_surd (a *ℤ pos units_in_one -ℤ pos d *ℤ x) (b *ℤ pos units_in_one)
less x cubic = positive_whole (neg_ℤ (cubic_at x))
less x copied = true

unfoldable pub more : ℤ → Exact → Bool
more x (surd a b d) = positive_surd (pos d *ℤ x -ℤ a *ℤ pos units_in_one) (neg_ℤ (b *ℤ pos units_in_one))
more x cubic = positive_whole (cubic_at x)
more x copied = true

-- ---- the rule

-- how many places either way: the neighbours of the double; two doubles for the cubic
abbrev pub reach : Exact → ℕ
reach (surd a b d) = 1
reach cubic = 2
reach copied = 0

-- the exact number lies strictly between the doubles so many places down and up from x
pub record Between (x : Float) (e : Exact) : Type 0 where
  pub lower : T (less (signed_units (down (reach e) (to_bits binary64 x))) e)
  pub upper : T (more (signed_units (up (reach e) (to_bits binary64 x))) e)

-- what may stand at place k of the table: a double that is right for its exact number; past the 27 entries nothing
pub data RightAt : ℕ → Option Float → Type 0 where
  entry : (k : ℕ) (x : Float) → k < 27 → Between x (exact_at k) → RightAt k (Some x)
  past : (k : ℕ) → 27 ≤ k → RightAt k None

-- the one test that runs over the table
unfoldable pub between : Float → Exact → Bool
between x e =
    less (signed_units (down (reach e) (to_bits binary64 x))) e && more
    (signed_units (up (reach e) (to_bits binary64 x))) e
