-- Zeros in a sum that starts at +0 and has one term besides them: a finite double times 0 is a zero (`zero-times`); +0
-- and a zero give +0 (`zero-first`); a zero added to what +0 and a double give leaves it as it is (`zero-after`), since
-- that is never -0, which a zero could change, and a double rounds to itself (`given_back`). A double that gives a zero
-- when it is taken from itself is finite (`less-itself`).
use Prim.Native.Nat.{ℕ, zero, suc, ◌+◌, ◌-◌, ◌*◌, ◌%◌, ◌^◌, ◌≤◌, ◌<◌}
use mathlib.Core.Path.{◌≡◌, refl, sym, ap, subst, ◌∙◌}
use mathlib.Core.Bool.{Bool, true, false, ◌&&◌, ◌||◌, beq}
use native.Mathlib.Nat.{le_of_suc-le-suc, le_of_eq, lt_of_lt_of_le, lt_of_not-le, lt_irrefl}
use native.Mathlib.Nat.{lt_of_mul-lt-mul_right, mul-lt-mul_of_pos_right, mul_comm}
use native.Mathlib.Nat.{mul_assoc, mul_right_comm, mul-one, zero-mul, mul-pos, zero-lt-suc}
use native.Mathlib.Omega.{arith}
use lib.Dec.{T, eqb, ltb, leb, ltb→lt, leb→le}
use lib.Pow.{pow_pos, pow-add, pow-lt}
use lib.IntN.{ℤ, pos, negsuc}
use lib.Ieee.{Float, nan, inf, fin, Format, prec, emax, low, binary64, add}
use lib.Ieee.{sub, mul, neg, eq, fits, of_bits, round, sum, unlike, up, down}
use lib.Ieee.Fits.{up_pos, down_pos, round-fits, and_l, and_r}
use lib.Ieee.Exact.{HasValue, round_exact}
use lib.Ieee.Scale.{round_same, finite}
use borrow.Author.Tests.{lt-ltb, le-ltb, eq-eqb}
use Rattle.words.specs.Words.{◌⊕◌, ◌⊖◌, ◌⊗◌}
use Rattle.words.specs.Constants.{«0·0»}
use Rattle.scalar.proofs.Tests.{is_zero, never}
use Rattle.scalar.proofs.OrderLaws.{equal-same}

-- ---- a double, rounded, is itself

power_below : (a l : ℕ) → 2 ^ a ≤ 2 ^ l → a ≤ l
power_below a l h = le_of_suc-le-suc (lt_of_not-le (λ (g : suc l ≤ a). lt_irrefl (2 ^ l) (lt_of_lt_of_le (pow-lt g) h)))

units-above : (l h d : ℕ) → 2 ^ h * d * 2 ^ l ≡ 2 ^ (l + h) * d
units-above l h d =
    mul_right_comm (2 ^ h) d (2 ^ l) ∙ ap (λ (x : ℕ). x * d) (mul_comm (2 ^ h) (2 ^ l) ∙ sym (pow-add 2 l h))

-- 2 ^ e is 2 ^ j of the smallest values
place : (l : ℕ) (e : ℤ) → down e ≤ 2 ^ l → (j : ℕ) × ((m : ℕ) → m * up e * 2 ^ l ≡ m * 2 ^ j * down e)
place l (pos a) h = (
  a + l,
  λ m. mul_assoc m (2 ^ a) (2 ^ l) ∙ ap (λ (x : ℕ). m * x) (sym (pow-add 2 a l)) ∙ sym (mul-one (m * 2 ^ (a + l))),
)
place l (negsuc a) h =
    let g : suc a ≤ l = power_below (suc a) l h in
    let e : l - suc a + suc a ≡ l = omega arith in (
      l - suc a,
      λ m. ap (λ (x : ℕ). x * 2 ^ l) (mul-one m) ∙ ap (λ (x : ℕ). m * 2 ^ x) (sym e)
          ∙ ap (λ (x : ℕ). m * x) (pow-add 2 (l - suc a) (suc a)) ∙ sym (mul_assoc m (2 ^ (l - suc a)) (2 ^ suc a)),
    )

module _ (f : Format) (s : Bool) (m : ℕ) (e : ℤ) (fit : T (fits f (fin s (suc m) e))) where
  abbrev is_odd : Bool
  is_odd = eqb (suc m % 2) 1

  abbrev is_short : Bool
  is_short = ltb (suc m) (2 ^ prec f)

  abbrev is_high : Bool
  is_high = leb (down e) (2 ^ low f)

  abbrev is_low : Bool
  is_low = ltb (suc m * up e) (2 ^ suc (emax f) * down e)

  fields : T (is_odd && is_short && is_high && is_low)
  unfolding fits
  fields = fit

  short : suc m < 2 ^ prec f
  short =
      ltb→lt (suc m) (2 ^ prec f)
      (and_r is_odd is_short (and_l (is_odd && is_short) is_high (and_l (is_odd && is_short && is_high) is_low fields)))

  not_low : down e ≤ 2 ^ low f
  not_low =
      leb→le (down e) (2 ^ low f)
      (and_r (is_odd && is_short) is_high (and_l (is_odd && is_short && is_high) is_low fields))

  not-high : suc m * up e < 2 ^ suc (emax f) * down e
  not-high = ltb→lt (suc m * up e) (2 ^ suc (emax f) * down e) (and_r (is_odd && is_short && is_high) is_low fields)

  rounded-value : HasValue (round f s (suc m * up e) (down e)) s (suc m * up e) (down e)
  rounded-value =
      let p = place (low f) e not_low in
      let j = p.0 in
      let same : suc m * up e * 2 ^ low f ≡ suc m * 2 ^ j * down e = p.1 (suc m) in
      let within : suc m * 2 ^ j * down e < 2 ^ (low f + suc (emax f)) * down e =
      subst (λ (x : ℕ). x < 2 ^ (low f + suc (emax f)) * down e) same
      (lt_of_lt_of_le (mul-lt-mul_of_pos_right not-high (pow_pos (low f)))
      (le_of_eq (units-above (low f) (suc (emax f)) (down e))))
      in
      round_exact f s (suc m * up e) (down e) (suc m) j (down_pos e) short (lt_of_mul-lt-mul_right (down e) within) same

level-is : (s : Bool) (m : ℕ) (e : ℤ) (t : Bool) (n : ℕ) (d : ℤ) → s ≡ t → suc m * up e * down d ≡ n * up d * down e
    → eq (fin s (suc m) e) (fin t n d) ≡ true
unfolding eq
level-is s m e t n d p h =
    rw (sym p, eq-eqb (suc m * up e * down d) (n * up d * down e) h) (alike s (eqb (suc m * up e * down d) 0))
  where
    alike : (s z : Bool) → beq s s || z ≡ true
    alike true z = refl
    alike false z = refl

-- two doubles of one size and one sign
same-double : (x : Float) (s : Bool) (m : ℕ) (e : ℤ) → T (fits binary64 x) → T (fits binary64 (fin s (suc m) e))
    → HasValue x s (suc m * up e) (down e) → x ≡ fin s (suc m) e
same-double nan s m e f g v = absurd v
same-double (inf t) s m e f g v = absurd v
same-double (fin t n d) s m e f g v =
    sym (equal-same (fin s (suc m) e) (fin t n d) g f refl (level-is s m e t n d (sym v.0) (sym v.1)))

pub given_back : (s : Bool) (m : ℕ) (e : ℤ) → T (fits binary64 (fin s (suc m) e))
    → round binary64 s (suc m * up e) (down e) ≡ fin s (suc m) e
given_back s m e f =
    same-double (round binary64 s (suc m * up e) (down e)) s m e (round-fits binary64 s (suc m * up e) (down e)) f
    (rounded-value binary64 s m e f)

-- ---- a sum with a zero, by its parts

zero-by-one : (s : Bool) → round binary64 s 0 1 ≡ fin s 0 (pos 0)
unfolding round
zero-by-one s = refl

round-zero : (s : Bool) (c : ℕ) → 0 < c → round binary64 s 0 c ≡ fin s 0 (pos 0)
round-zero s c h = round_same binary64 s 0 c 0 1 h (zero-lt-suc 0) (sym (zero-mul c)) ∙ zero-by-one s

sum_zeros : (t : Bool) (c : ℕ) → sum binary64 false 0 t 0 c ≡ round binary64 false 0 c
unfolding sum
sum_zeros true c = refl
sum_zeros false c = refl

sum_first : (s t : Bool) (b c : ℕ) → 0 < b → sum binary64 s 0 t b c ≡ round binary64 t b c
unfolding sum
sum_first true true b c h = let e : 0 + b ≡ b = omega arith in rw e
sum_first false false b c h = let e : 0 + b ≡ b = omega arith in rw e
sum_first true false b c h = let e : b - 0 ≡ b = omega arith in rw (lt-ltb 0 b h, e)
sum_first false true b c h = let e : b - 0 ≡ b = omega arith in rw (lt-ltb 0 b h, e)

sum-second : (s t : Bool) (a c : ℕ) → 0 < a → sum binary64 s a t 0 c ≡ round binary64 s a c
unfolding sum
sum-second true true a c h = let e : a + 0 ≡ a = omega arith in rw e
sum-second false false a c h = let e : a + 0 ≡ a = omega arith in rw e
sum-second true false a c h = let e : a - 0 ≡ a = omega arith in rw (le-ltb a 0 (omega arith), lt-ltb 0 a h, e)
sum-second false true a c h = let e : a - 0 ≡ a = omega arith in rw (le-ltb a 0 (omega arith), e)

-- ---- the laws

module _ (t : Bool) (n : ℕ) (d : ℤ) (fit : T (fits binary64 (fin t (suc n) d))) where
  first-gone : «0·0» ⊕ fin t (suc n) d ≡ fin t (suc n) d
  unfolding add of_bits
  first-gone =
      ap (λ (a : ℕ). sum binary64 false a t (suc n * up d * 1) (1 * down d)) (zero-mul (down d))
      ∙ sum_first false t (suc n * up d * 1) (1 * down d) (mul-pos (mul-pos (zero-lt-suc n) (up_pos d)) (zero-lt-suc 0))
      ∙ round_same binary64 t (suc n * up d * 1) (1 * down d) (suc n * up d) (down d)
      (mul-pos (zero-lt-suc 0) (down_pos d)) (down_pos d) (mul_assoc (suc n * up d) 1 (down d))
      ∙ given_back t n d fit

  second-gone : (s : Bool) (e : ℤ) → fin t (suc n) d ⊕ fin s 0 e ≡ fin t (suc n) d
  unfolding add
  second-gone s e =
      ap (λ (b : ℕ). sum binary64 t (suc n * up d * down e) s b (down d * down e))
      (ap (λ (x : ℕ). x * down d) (zero-mul (up e)) ∙ zero-mul (down d))
      ∙ sum-second t s (suc n * up d * down e) (down d * down e)
      (mul-pos (mul-pos (zero-lt-suc n) (up_pos d)) (down_pos e))
      ∙ round_same binary64 t (suc n * up d * down e) (down d * down e) (suc n * up d) (down d)
      (mul-pos (down_pos d) (down_pos e)) (down_pos d)
      (mul_assoc (suc n * up d) (down e) (down d) ∙ ap (λ (x : ℕ). suc n * up d * x) (mul_comm (down e) (down d)))
      ∙ given_back t n d fit

pub zero-first : (z : Float) → is_zero z ≡ true → «0·0» ⊕ z ≡ «0·0»
unfolding add of_bits
zero-first nan h = never (sym h)
zero-first (inf s) h = never (sym h)
zero-first (fin s zero e) h =
    ap (λ (a : ℕ). sum binary64 false a s (0 * up e * 1) (1 * down e)) (zero-mul (down e))
    ∙ ap (λ (b : ℕ). sum binary64 false 0 s b (1 * down e)) (ap (λ (x : ℕ). x * 1) (zero-mul (up e)))
    ∙ sum_zeros s (1 * down e) ∙ round-zero false (1 * down e) (mul-pos (zero-lt-suc 0) (down_pos e))
zero-first (fin s (suc m) e) h = never (sym h)

pub zero-after : (y z : Float) → T (fits binary64 y) → is_zero z ≡ true → «0·0» ⊕ y ⊕ z ≡ «0·0» ⊕ y
unfolding add of_bits
zero-after y nan f h = never (sym h)
zero-after y (inf s) f h = never (sym h)
zero-after y (fin s (suc m) e) f h = never (sym h)
zero-after nan (fin s zero e) f h = refl
zero-after (inf t) (fin s zero e) f h = refl
zero-after (fin t zero d) (fin s zero e) f h =
    let w = zero-first (fin t 0 d) refl in
    ap (λ (x : Float). x ⊕ fin s 0 e) w ∙ zero-first (fin s 0 e) refl ∙ sym w
zero-after (fin t (suc n) d) (fin s zero e) f h =
    let w = first-gone t n d f in
    ap (λ (x : Float). x ⊕ fin s 0 e) w ∙ second-gone t n d f s e ∙ sym w

pub zero-times : (x : Float) → T (finite x) → is_zero («0·0» ⊗ x) ≡ true
unfolding mul of_bits
zero-times nan h = absurd h
zero-times (inf s) h = absurd h
zero-times (fin s m e) h =
    ap is_zero
    (ap (λ (a : ℕ). round binary64 (unlike false s) a (1 * down e)) (zero-mul (m * up e))
    ∙ round-zero (unlike false s) (1 * down e) (mul-pos (zero-lt-suc 0) (down_pos e)))

pub zero-negated : (x : Float) → is_zero x ≡ true → is_zero (neg x) ≡ true
unfolding neg
zero-negated nan h = h
zero-negated (inf s) h = h
zero-negated (fin s zero e) h = h
zero-negated (fin s (suc m) e) h = h

pub less-itself : (x : Float) → eq (x ⊖ x) «0·0» ≡ true → T (finite x)
unfolding eq sub add neg of_bits
less-itself nan h = never (sym h)
less-itself (inf true) h = never (sym h)
less-itself (inf false) h = never (sym h)
less-itself (fin s m e) h = tt
