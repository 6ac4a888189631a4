-- The arithmetic of src/digits.rt and of a number at full width: a root digit by digit, what a number has beyond
-- a square, and m * 2 ^ w.
use Prim.Native.Nat.{ℕ, zero, suc, ◌+◌, ◌-◌, ◌*◌, ◌/◌, ◌%◌, ◌^◌, ◌≤◌, ◌<◌}
use mathlib.Core.Path.{◌≡◌, sym, ap, subst, ◌∙◌}
use native.Mathlib.Nat.{pow-succ', mul_assoc, mul_left_comm, lt_of_not-le, mul-le-mul_left, mul-le-mul_right}
use native.Mathlib.Nat.{not-suc-le-zero, mod-eq_of_lt}
use native.Mathlib.Nat.{le_trans, le_of_eq, not-le_of_lt}
use native.Mathlib.Omega.{arith}
use lib.Pow.{pow-add, pow_mono, shr-shr, shl_lt}
use lib.Count.{count_leading_zeros, leading_top}
use Rattle.words.specs.Patterns.{units_in_one}
use Rattle.scalar.specs.Steps.{Digits, Near, FullWidth}
use Rattle.scalar.proofs.Squares.{square-shows}

-- ---- a root digit by digit

pub digits_of : {n n' q r : ℕ} → Digits n q r → n ≡ n' → Digits n' q r
digits_of d e = record { sum = d.sum ∙ e; left = d.left }

-- two digits more of the number m, where p has all but the last l pairs
pub two-more : (m l p : ℕ) → 0 < l → p ≡ m / 2 ^ (2 * l) → 4 * p + m / 2 ^ (2 * (l - 1)) % 4 ≡ m / 2 ^ (2 * (l - 1))
two-more m l p h e =
    let k : 2 * l ≡ 2 * (l - 1) + 2 = omega arith in
    let s : p ≡ m / 2 ^ (2 * (l - 1)) / 4 = e ∙ ap (λ (n : ℕ). m / 2 ^ n) k ∙ sym (shr-shr m (2 * (l - 1)) 2) in
    omega arith

-- two zeros more
pub zeros-more : (m k p : ℕ) → p ≡ m * 2 ^ (2 * k) → 4 * p + 0 ≡ m * 2 ^ (2 * (k + 1))
zeros-more m k p e =
    let two : 2 * (k + 1) ≡ 2 * k + 2 = omega arith in
    rw (two, pow-add 2 (2 * k) 2) (omega arith)

-- the root of such a number is small, where l pairs of 26 are left
pub root-small : (m l q r : ℕ) → m < 2 ^ 54 → q * q + r ≡ m * 2 ^ (52 - 2 * l) → q < 2 ^ 53
root-small m l q r h e =
    let p : m * 2 ^ (52 - 2 * l) ≤ m * 2 ^ 52 = mul-le-mul_left m (pow_mono {i = 52 - 2 * l} {j = 52} (omega arith)) in
    square-shows (omega arith)

-- ---- what m * 2 ^ 52 has beyond the square of q = h * 2 ^ 27 + l

parts : (m h l d e r : ℕ) → m ≡ 4 * (h * h) + d → d * 2 ^ 24 ≡ h * l + e → e * 2 ^ 28 ≡ l * l + r
    → (h * 2 ^ 27 + l) * (h * 2 ^ 27 + l) + r ≡ m * 2 ^ 52
parts m h l d e r x y z = omega arith

module _ (m q d e r : ℕ) where
  abbrev h : ℕ
  h = q / 2 ^ 27

  abbrev l : ℕ
  l = q % 2 ^ 27

  pub beyond : (4 * (h * h) ≤ m) × (d ≡ m - 4 * (h * h)) → (h * l ≤ d * 2 ^ 24) × (e ≡ d * 2 ^ 24 - h * l)
      → (l * l ≤ e * 2 ^ 28) × (r ≡ e * 2 ^ 28 - l * l) → q * q + r ≡ m * 2 ^ 52
  beyond a b c =
      let s : h * 2 ^ 27 + l ≡ q = omega arith in
      subst (λ (x : ℕ). x * x + r ≡ m * 2 ^ 52) s
      (parts m h l d e r (omega (arith, a.0, a.1)) (omega (arith, b.0, b.1)) (omega (arith, c.0, c.1)))

pub near-of-digits : {n q r : ℕ} → Digits n q r → Near n q r
near-of-digits d = record { sum = d.sum; left = omega (arith, d.left) }

-- ---- a number at full width, m * 2 ^ w

pub doubled : (m w : ℕ) → 0 < w → 2 * m * 2 ^ (w - 1) ≡ m * 2 ^ w
doubled m zero h = absurd (not-suc-le-zero h)
doubled m (suc w) h =
    let e : suc w - 1 ≡ w = omega arith in
    ap (λ (n : ℕ). 2 * m * 2 ^ n) e ∙ mul_assoc 2 m (2 ^ w) ∙ mul_left_comm 2 m (2 ^ w)
    ∙ ap (λ (x : ℕ). m * x) (sym (pow-succ' 2 w))

one_split : (k l : ℕ) → k + l ≡ 1074 → 2 ^ k * 2 ^ l ≡ units_in_one
unfolding units_in_one
one_split k l e = sym (pow-add 2 k l) ∙ ap (λ (n : ℕ). 2 ^ n) e

-- b, whose highest digit stands at the place j, shifted to the place 52
module _ (b j s : ℕ) (low : 2 ^ j ≤ b) (high : b < 2 ^ suc j) (sum : j + s ≡ 52) where
  shifted-low : 2 ^ 52 ≤ b * 2 ^ s
  shifted-low =
      subst (λ (n : ℕ). 2 ^ n ≤ b * 2 ^ s) sum (le_trans (le_of_eq (pow-add 2 j s)) (mul-le-mul_right (2 ^ s) low))

  shifted-high : b * 2 ^ s < 2 ^ 53
  shifted-high =
      let e : suc j + s ≡ 53 = omega arith in
      subst (λ (n : ℕ). b * 2 ^ s < 2 ^ n) e (shl_lt {a = b} (suc j) s high)

  -- no digit is lost at 64
  shifted-whole : b * 2 ^ s % 2 ^ 64 ≡ b * 2 ^ s
  shifted-whole = mod-eq_of_lt (omega (arith, shifted-high))

  shifted-full : FullWidth b (b * 2 ^ s) (1074 - s)
  shifted-full =
      record {
        same = mul_assoc b (2 ^ s) (2 ^ (1074 - s)) ∙ ap (λ (x : ℕ). b * x) (one_split s (1074 - s) (omega arith));
        full = shifted-low;
        fits = shifted-high;
        least = omega arith;
        most = omega arith;
      }

-- the leading zeros of a subnormal number, and what a shift by all but 11 of them brings it to
module _ (b : ℕ) (some : 0 < b) (few : b < 2 ^ 52) where
  top : (j : ℕ) × (count_leading_zeros 64 b + suc j ≡ 64) × (2 ^ j ≤ b) × (b < 2 ^ suc j)
  top = leading_top 64 b some (omega arith)

  top-low : top.0 < 52
  top-low = lt_of_not-le (λ (g : 52 ≤ top.0). not-le_of_lt few (le_trans (pow_mono g) top.2))

  pub zeros-least : 12 ≤ count_leading_zeros 64 b
  zeros-least = omega (arith, top.1, top-low)

  pub zeros-most : count_leading_zeros 64 b ≤ 63
  zeros-most = omega (arith, top.1)

  pub widened : FullWidth b (b * 2 ^ (count_leading_zeros 64 b - 11) % 2 ^ 64) (1074 - (count_leading_zeros 64 b - 11))
  widened =
      let s = count_leading_zeros 64 b - 11 in
      let sum : top.0 + s ≡ 52 = omega (arith, top.1, top-low) in
      subst (λ (m : ℕ). FullWidth b m (1074 - s))
      (sym (shifted-whole b top.0 s top.2 top.3 sum))
      (shifted-full b top.0 s top.2 top.3 sum)

-- the digits t of a pattern with the field f
pub field-place : (t f : ℕ) → 0 < f → t * 2 ^ (1073 + f) ≡ t * 2 ^ (f - 1) * units_in_one
unfolding units_in_one
field-place t f h =
    let e : 1073 + f ≡ f - 1 + 1074 = omega arith in
    ap (λ (n : ℕ). t * 2 ^ n) e ∙ ap (λ (x : ℕ). t * x) (pow-add 2 (f - 1) 1074)
    ∙ sym (mul_assoc t (2 ^ (f - 1)) (2 ^ 1074))
