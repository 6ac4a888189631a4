-- The patterns of the doubles that are not negative: no NaN is among them, `units` says what number each stands for
-- (`units-are`), a larger pattern stands for more, and a double that is finite and above zero has a pattern between
-- those of +0 and infinity.
use Prim.Native.Nat.{ℕ, suc, ◌+◌, ◌-◌, ◌*◌, ◌/◌, ◌%◌, ◌^◌, ◌≤◌, ◌<◌}
use mathlib.Core.Path.{◌≡◌, sym, ap, subst, ◌∙◌}
use mathlib.Core.Bool.{Bool, true, false, not}
use native.Mathlib.Nat.{le_refl, le_trans, le_of_lt, lt_of_lt_of_le, lt_of_le_of_lt, pow-succ'}
use native.Mathlib.Nat.{mul_assoc, mul-one, add-mul, mul-le-mul_right, mod-eq_of_lt}
use native.Mathlib.Numerals.{add-one}
use native.Mathlib.Decide.{dec_lt, le_ind}
use native.Mathlib.Omega.{arith}
use lib.Dec.{T, T_not}
use lib.Pow.{pow_pos}
use lib.IntN.{ℤ}
use lib.Ieee.{Float, nan, inf, fin, binary64, neg, le, is_nan, fits}
use lib.Ieee.{odd, of_fields, of_bits, to_bits, nan_bits, ones, hid, top}
use lib.Ieee.Fits.{neg-fits}
use lib.Ieee.Bits.{is_false, of_bits-to_bits, to_bits-of_bits, to_bits-lt, nan_bits_is, nan_bits_above}
use lib.Ieee.Exact.{HasValue, odd_sign}
use lib.Ieee.Order.{le_of_values}
use lib.Ieee.Positive.{positive, positive_of_value}
use borrow.Author.Tests.{lt-ltb, le-ltb, lt-leb, ne_eqb, ltb-false}
use Rattle.words.specs.Words.{double}
use Rattle.words.specs.Loop.{pick}
use Rattle.words.specs.Patterns.{units, infinity_pattern}

-- ---- units

pub units-low : (b : ℕ) → b < 2 ^ 52 → units b ≡ b
unfolding units pick
units-low b h = rw (lt-ltb b (2 ^ 52) h)

pub units-high : (b : ℕ) → 2 ^ 52 ≤ b → units b ≡ (2 ^ 52 + b % 2 ^ 52) * 2 ^ (b / 2 ^ 52 - 1)
unfolding units pick
units-high b h = rw (le-ltb b (2 ^ 52) h)

-- a pattern h * 2 ^ 52 + q with q of 53 digits, or the power of 2 next to those, stands for q * 2 ^ h
units-below : (h q b : ℕ) → b ≡ h * 2 ^ 52 + q → 2 ^ 52 ≤ q → q < 2 ^ 53 → units b ≡ q * 2 ^ h
units-below h q b e l u =
    let t : 2 ^ 52 + b % 2 ^ 52 ≡ q = omega arith in
    let f : b / 2 ^ 52 - 1 ≡ h = omega arith in
    units-high b (omega arith) ∙ rw (t, f)

units-top : (h b : ℕ) → b ≡ h * 2 ^ 52 + 2 ^ 53 → units b ≡ 2 ^ 53 * 2 ^ h
units-top h b e =
    let t : 2 ^ 52 + b % 2 ^ 52 ≡ 2 ^ 52 = omega arith in
    let f : b / 2 ^ 52 - 1 ≡ suc h = omega arith in
    units-high b (omega arith) ∙ rw (t, f, pow-succ' 2 h) (sym (mul_assoc (2 ^ 52) 2 (2 ^ h)))

pub units-at : (h q b : ℕ) → b ≡ h * 2 ^ 52 + q → 2 ^ 52 ≤ q → q ≤ 2 ^ 53 → units b ≡ q * 2 ^ h
units-at h q b e l u = by (dec_lt q (2 ^ 53))
  where
    by : Dec (q < 2 ^ 53) → units b ≡ q * 2 ^ h
    by (yes g) = units-below h q b e l g
    by (no g) = let p : q ≡ 2 ^ 53 = omega arith in units-top h b (omega arith) ∙ rw p

-- the next pattern stands for more
one-more : (q h : ℕ) → q * 2 ^ h < (q + 1) * 2 ^ h
one-more q h = rw (add-mul q 1 (2 ^ h)) (omega (arith, pow_pos h))

pub units-next : (b : ℕ) → units b < units (b + 1)
units-next b = by (dec_lt b (2 ^ 52))
  where
    low : b < 2 ^ 52 → Dec (b + 1 < 2 ^ 52) → units b < units (b + 1)
    low g (yes k) = rw (units-low b g, units-low (b + 1) k) (omega arith)
    low g (no k) =
        rw (units-low b g, units-at 0 (b + 1) (b + 1) (omega arith) (omega arith) (omega arith)) (omega arith)

    by : Dec (b < 2 ^ 52) → units b < units (b + 1)
    by (yes g) = low g (dec_lt (b + 1) (2 ^ 52))
    by (no g) =
        let h : ℕ = b / 2 ^ 52 - 1 in
        let q : ℕ = 2 ^ 52 + b % 2 ^ 52 in
        rw (
          units-at h q b (omega arith) (omega arith) (omega arith),
          units-at h (q + 1) (b + 1) (omega arith) (omega arith) (omega arith),
        )
        (one-more q h)

pub units_mono : (a b : ℕ) → a ≤ b → units a ≤ units b
units_mono a b h =
    le_ind (λ (m : ℕ). units a ≤ units m) (le_refl (units a))
    (λ m k p. le_trans p (le_of_lt (subst (λ (n : ℕ). units m < units n) (add-one m) (units-next m)))) b h

pub units-strict : (a b : ℕ) → a < b → units a < units b
units-strict a b h = lt_of_lt_of_le (units-next a) (units_mono (a + 1) b (omega arith))

pub units-some : (b : ℕ) → 0 < b → 0 < units b
units-some b h = lt_of_le_of_lt (omega arith) (units-strict 0 b h)

-- ---- the number of a pattern

-- a pattern up to infinity's is no NaN's
pub no_nan : (b : ℕ) → b ≤ infinity_pattern → T (not (nan_bits binary64 b))
no_nan b h =
    subst (λ (t : Bool). T (not t))
    (sym (nan_bits_above binary64 b
    ∙ le-ltb (ones binary64 * hid binary64) (b % top binary64)
    (omega (arith, mod-eq_of_lt {n = b} {m = top binary64} (omega arith)))))
    tt

pub pattern-back : (b : ℕ) → b < infinity_pattern → to_bits binary64 (double b) ≡ b
pattern-back b h =
    to_bits-of_bits binary64 b (omega arith)
    (subst (λ (t : Bool). T (not t)) (nan_bits_is binary64 b) (no_nan b (le_of_lt h)))

by-fields : (b : ℕ) → b < infinity_pattern → double b ≡ of_fields binary64 false (b / 2 ^ 52) (b % 2 ^ 52)
unfolding of_bits
by-fields b h = rw (lt-leb (top binary64) b (omega arith), mod-eq_of_lt {n = b} {m = top binary64} (omega arith))

field-none : (t : ℕ) → HasValue (of_fields binary64 false 0 t) false t (2 ^ 1074)
unfolding of_fields
field-none t =
    subst (λ (n : ℕ). HasValue (odd 53 false t 0 1074) false n (2 ^ 1074)) (mul-one t) (odd_sign 53 false t 0 1074)

field-some : (x t : ℕ) → suc x < 2047
    → HasValue (of_fields binary64 false (suc x) t) false ((2 ^ 52 + t) * 2 ^ x) (2 ^ 1074)
unfolding of_fields
field-some x t h = rw (ne_eqb (suc x) 2047 (omega arith)) (odd_sign 53 false (2 ^ 52 + t) x 1074)

-- the double with the pattern b is units b / 2 ^ 1074
pub units-are : (b : ℕ) → b < infinity_pattern → HasValue (double b) false (units b) (2 ^ 1074)
units-are b h = rw (by-fields b h) (by (dec_lt b (2 ^ 52)))
  where
    by : Dec (b < 2 ^ 52) → HasValue (of_fields binary64 false (b / 2 ^ 52) (b % 2 ^ 52)) false (units b) (2 ^ 1074)
    by (yes g) =
        let z : b / 2 ^ 52 ≡ 0 = omega arith in
        let t : b % 2 ^ 52 ≡ b = omega arith in
        rw (units-low b g, z, t) (field-none b)
    by (no g) =
        let z : b / 2 ^ 52 ≡ suc (b / 2 ^ 52 - 1) = omega arith in
        rw (units-high b (omega arith)) (subst (λ (k : ℕ).
        HasValue (of_fields binary64 false k (b % 2 ^ 52)) false
        ((2 ^ 52 + b % 2 ^ 52) * 2 ^ (b / 2 ^ 52 - 1)) (2 ^ 1074))
        (sym z)
        (field-some (b / 2 ^ 52 - 1) (b % 2 ^ 52) (omega arith)))

pub pattern-positive : (b : ℕ) → 0 < b → b < infinity_pattern → T (positive (double b))
pattern-positive b h g = positive_of_value (double b) (units b) (2 ^ 1074) (units-are b g) (units-some b h)

pub pattern-mono : (b c : ℕ) → b ≤ c → c < infinity_pattern → T (le (double b) (double c))
pattern-mono b c h g =
    le_of_values (double b) (double c) (units b) (2 ^ 1074) (units c) (2 ^ 1074) (pow_pos 1074) (pow_pos 1074)
    (units-are b (lt_of_le_of_lt h g)) (units-are c g)
    (mul-le-mul_right (2 ^ 1074) (units_mono b c h))

-- ---- the pattern of a number above zero

pub positive-number : (x : Float) → T (positive x) → T (not (is_nan x))
unfolding is_nan
positive-number nan p = p
positive-number (inf s) p = tt
positive-number (fin s m e) p = tt

-- with the sign's bit the pattern is still one of 64 bits, so that bit is not in it
regroup : (t a b : ℕ) → t + a + b ≡ t + (0 + a + b)
regroup t a b = omega arith

sign-adds : (m : ℕ) (e : ℤ) → to_bits binary64 (fin true m e) ≡ top binary64 + to_bits binary64 (fin false m e)
unfolding to_bits
sign-adds m e = regroup (top binary64) _ _

negated : (m : ℕ) (e : ℤ) → T (fits binary64 (fin false m e)) → T (fits binary64 (fin true m e))
unfolding neg
negated m e f = neg-fits binary64 (fin false m e) f

under_top : (x : Float) → T (fits binary64 x) → T (positive x) → to_bits binary64 x < top binary64
under_top nan f p = absurd p
under_top (inf s) f p = absurd p
under_top (fin true m e) f p = absurd p
under_top (fin false m e) f p = omega (arith, sign-adds m e, to_bits-lt binary64 (fin true m e) (negated m e f))

module _ (x : Float) (f : T (fits binary64 x)) (p : T (positive x)) where
  no-nan-here : nan_bits binary64 (to_bits binary64 x) ≡ false
  no-nan-here =
      nan_bits_is binary64 (to_bits binary64 x) ∙ ap (λ (y : Float). is_nan y) (of_bits-to_bits binary64 x f)
      ∙ is_false (is_nan x) (positive-number x p)

  not-the-pattern : (b : ℕ) → T (not (positive (double b))) → to_bits binary64 x ≡ b → ⊥
  not-the-pattern b n e =
      T_not (positive x)
      (subst (λ (y : Float). T (not (positive y))) (ap (λ (k : ℕ). double k) (sym e) ∙ of_bits-to_bits binary64 x f) n)
      p

  not-zero : to_bits binary64 x ≡ 0 → ⊥
  unfolding of_bits
  not-zero e = not-the-pattern 0 tt e

  not-infinity : to_bits binary64 x ≡ infinity_pattern → ⊥
  unfolding of_bits
  not-infinity e = not-the-pattern infinity_pattern tt e

  pub pattern-above : 0 < to_bits binary64 x
  pattern-above = omega (arith, not-zero)

  pub pattern-under : to_bits binary64 x < infinity_pattern
  pattern-under =
      let t : to_bits binary64 x < top binary64 = under_top x f p in
      let n : to_bits binary64 x % top binary64 ≤ ones binary64 * hid binary64 =
      ltb-false (ones binary64 * hid binary64) (to_bits binary64 x % top binary64)
      (sym (nan_bits_above binary64 (to_bits binary64 x)) ∙ no-nan-here) in
      omega (arith, not-infinity, mod-eq_of_lt t)
