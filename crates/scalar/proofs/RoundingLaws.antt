-- The pattern that the code composes of a root's 53 digits q, its place and the remainder r is that of the nearest
-- double. With s = q * q + r the root of s lies from q on and below q + 1; it is above the middle q + 1/2 exactly when
-- r is above q, and never on it, since 4 * s is even and (2 * q + 1)^2 odd.
use Prim.Native.Nat.{ℕ, ◌+◌, ◌-◌, ◌*◌, ◌/◌, ◌%◌, ◌^◌, ◌≤◌, ◌<◌}
use mathlib.Core.Path.{◌≡◌, refl, sym, ap, subst, ◌∙◌}
use mathlib.Core.Bool.{true, false}
use native.Mathlib.Nat.{le_refl, le_trans, le_of_lt, le_of_eq, lt_of_lt_of_le, lt_of_le_of_lt}
use native.Mathlib.Nat.{mul_assoc, mul_left_comm, mul-pos, mul-le-mul_right, mul-lt-mul_of_pos_right}
use native.Mathlib.Decide.{dec_le}
use native.Mathlib.Omega.{arith}
use lib.Pow.{pow_pos, pow-add}
use borrow.Author.Tests.{lt-ltb, le-ltb, ne_eqb}
use Rattle.words.specs.Patterns.{units, units_in_one, infinity_pattern}
use Rattle.scalar.specs.SquareRootComputed.{border, reaches, nearest_root}
use Rattle.scalar.specs.Steps.{EvenPlace, Digits, Near}
use Rattle.scalar.proofs.Squares.{square-mono, square-strict, square-shows}
use Rattle.scalar.proofs.PatternLaws.{units-at, units-next, units_mono}
use Rattle.scalar.proofs.HalvingLaws.{halve-finds}
use Rattle.scalar.proofs.DigitLaws.{root-small}

pub border-mono : (a b : ℕ) → a ≤ b → border a ≤ border b
unfolding border
border-mono a b h = omega (arith, units_mono (a - 1) (b - 1) (omega arith), units_mono a b h)

-- ---- the root of n lies strictly between the middles on b's two sides: so halving finds b

module _ (n b : ℕ) (above : border b * border b < 4 * n) (under : 4 * n < border (b + 1) * border (b + 1)) where
  below : (c : ℕ) → c ≤ b → reaches n c ≡ true
  unfolding reaches
  below c h = rw (lt-ltb (border c * border c) (4 * n) (lt_of_le_of_lt (square-mono (border-mono c b h)) above))

  beyond : (c : ℕ) → b < c → reaches n c ≡ false
  unfolding reaches
  beyond c h =
      let l : 4 * n < border c * border c = lt_of_lt_of_le under (square-mono (border-mono (b + 1) c (omega arith))) in
      rw (le-ltb (border c * border c) (4 * n) (le_of_lt l), ne_eqb (border c * border c) (4 * n) (omega arith))

  found : b < infinity_pattern → nearest_root n ≡ b
  unfolding nearest_root
  found h =
      halve-finds (reaches n) 63 b infinity_pattern 0 infinity_pattern below (λ c l k. beyond c l) (omega arith) h
      (le_refl infinity_pattern) (omega arith)

-- ---- squares at a scale k

square-at : (a k : ℕ) → (a * k) * (a * k) ≡ a * a * (k * k)
square-at a k = simp (mul_assoc, mul_left_comm) refl

lt-scaled : (a s k : ℕ) → 0 < k → a * a < 4 * s → (a * k) * (a * k) < 4 * (s * (k * k))
lt-scaled a s k p h =
    subst (λ (x : ℕ). x < 4 * (s * (k * k))) (sym (square-at a k))
    (lt_of_lt_of_le (mul-lt-mul_of_pos_right h (mul-pos p p)) (le_of_eq (mul_assoc 4 s (k * k))))

le-scaled : (a s k : ℕ) → a * a ≤ 4 * s → (a * k) * (a * k) ≤ 4 * (s * (k * k))
le-scaled a s k h =
    subst (λ (x : ℕ). x ≤ 4 * (s * (k * k))) (sym (square-at a k))
    (le_trans (mul-le-mul_right (k * k) h) (le_of_eq (mul_assoc 4 s (k * k))))

gt-scaled : (a s k : ℕ) → 0 < k → 4 * s < a * a → 4 * (s * (k * k)) < (a * k) * (a * k)
gt-scaled a s k p h =
    subst (λ (x : ℕ). 4 * (s * (k * k)) < x) (sym (square-at a k))
    (lt_of_le_of_lt (le_of_eq (sym (mul_assoc 4 s (k * k)))) (mul-lt-mul_of_pos_right h (mul-pos p p)))

-- ---- the pattern b = h * 2 ^ 52 + q, and the number (q * q + r) * 4 ^ h

module _ (h q r b : ℕ) (e : b ≡ h * 2 ^ 52 + q) (l : 2 ^ 52 ≤ q) (u : q < 2 ^ 53) (d : r ≤ 2 * q) where
  border-this : border b < 2 * q * 2 ^ h
  unfolding border
  border-this =
      let p : b - 1 + 1 ≡ b = omega arith in
      let s : units (b - 1) < units b = subst (λ (x : ℕ). units (b - 1) < units x) p (units-next (b - 1)) in
      omega (arith, units-at h q b e l (omega arith))

  border-next : border (b + 1) ≡ (2 * q + 1) * 2 ^ h
  unfolding border
  border-next =
      let p : b + 1 - 1 ≡ b = omega arith in
      rw (p, units-at h q b e l (omega arith), units-at h (q + 1) (b + 1) (omega arith) (omega arith) (omega arith))
      (omega arith)

  border-after : 2 * (q + 1) * 2 ^ h < border (b + 1 + 1)
  unfolding border
  border-after =
      let p : b + 1 + 1 - 1 ≡ b + 1 = omega arith in
      let s : units (b + 1) < units (b + 1 + 1) = units-next (b + 1) in
      rw p (omega (arith, units-at h (q + 1) (b + 1) (omega arith) (omega arith) (omega arith)))

  abbrev n : ℕ
  n = (q * q + r) * (2 ^ h * 2 ^ h)

  composed-down : r ≤ q → b < infinity_pattern → nearest_root n ≡ b
  composed-down g = found n b
      (lt_of_lt_of_le (square-strict border-this) (le-scaled (2 * q) (q * q + r) (2 ^ h) (omega arith)))
      (rw border-next (gt-scaled (2 * q + 1) (q * q + r) (2 ^ h) (pow_pos h) (omega arith)))

  composed-up : q < r → b + 1 < infinity_pattern → nearest_root n ≡ b + 1
  composed-up g = found n (b + 1)
      (rw border-next (lt-scaled (2 * q + 1) (q * q + r) (2 ^ h) (pow_pos h) (omega arith)))
      (lt_of_lt_of_le (gt-scaled (2 * (q + 1)) (q * q + r) (2 ^ h) (pow_pos h) (omega arith))
      (square-mono (le_of_lt border-after)))

-- ---- from what the code has

full : (q r s : ℕ) → q * q + r ≡ s → r ≤ 2 * q → 2 ^ 52 * 2 ^ 52 ≤ s → 2 ^ 52 ≤ q
full q r s e d h = le-of-suc (square-shows {a = 2 ^ 52} {b = q + 1} (omega arith))
  where
    le-of-suc : 2 ^ 52 < q + 1 → 2 ^ 52 ≤ q
    le-of-suc k = omega arith

-- m * 2 ^ w is m * 2 ^ 52 * 4 ^ h
place : (m w : ℕ) → w % 2 ≡ 0 → 52 ≤ w → m * 2 ^ w ≡ m * 2 ^ 52 * (2 ^ ((w - 52) / 2) * 2 ^ ((w - 52) / 2))
place m w e l =
    let h : ℕ = (w - 52) / 2 in
    let k : w ≡ 52 + (h + h) = omega arith in
    ap (λ (n : ℕ). m * 2 ^ n) k
    ∙ ap (λ (x : ℕ). m * x) (pow-add 2 52 (h + h) ∙ ap (λ (x : ℕ). 2 ^ 52 * x) (pow-add 2 h h))
    ∙ sym (mul_assoc m (2 ^ 52) (2 ^ h * 2 ^ h))

module _ (u m w : ℕ) (f : EvenPlace u m w) where
  abbrev half : ℕ
  half = (w - 52) / 2

  module _ (q r : ℕ) (d : Digits (m * 2 ^ 52) q r) where
    number : u * units_in_one ≡ (q * q + r) * (2 ^ half * 2 ^ half)
    number =
        sym f.same ∙ place m w f.even (omega arith) ∙ ap (λ (x : ℕ). x * (2 ^ half * 2 ^ half)) (sym d.sum)

    digits-full : 2 ^ 52 ≤ q
    digits-full = full q r (m * 2 ^ 52) d.sum d.left (omega arith)

    digits-fit : q < 2 ^ 53
    digits-fit = root-small m 0 q r f.fits d.sum

    rounded-down : r ≤ q → nearest_root (u * units_in_one) ≡ half * 2 ^ 52 + q
    rounded-down g =
        rw number (composed-down half q r (half * 2 ^ 52 + q) refl digits-full digits-fit d.left g
        (omega (arith, digits-fit, f.most)))

    rounded-up : q < r → nearest_root (u * units_in_one) ≡ half * 2 ^ 52 + q + 1
    rounded-up g =
        rw number (composed-up half q r (half * 2 ^ 52 + q) refl digits-full digits-fit d.left g
        (omega (arith, digits-fit, f.most)))

  -- the digits may be one less than the root's
  module _ (q r : ℕ) (n : Near (m * 2 ^ 52) q r) where
    pub near_fits : q < 2 ^ 53
    near_fits = root-small m 0 q r f.fits n.sum

    this : r ≤ 2 * q → Digits (m * 2 ^ 52) q r
    this h = record { sum = n.sum; left = h }

    one-square-more : (s : ℕ) → q * q + r ≡ s → 2 * q < r → (q + 1) * (q + 1) + (r - 2 * q - 1) ≡ s
    one-square-more s e h = omega arith

    next : 2 * q < r → Digits (m * 2 ^ 52) (q + 1) (r - 2 * q - 1)
    next h = record { sum = one-square-more (m * 2 ^ 52) n.sum h; left = omega (arith, n.left) }

    pub near-two : 3 * q + 2 < r → half * 2 ^ 52 + q + 2 ≡ nearest_root (u * units_in_one)
    near-two h =
        let e : half * 2 ^ 52 + q + 2 ≡ half * 2 ^ 52 + (q + 1) + 1 = omega arith in
        e ∙ sym (rounded-up (q + 1) (r - 2 * q - 1) (next (omega arith)) (omega arith))

    pub near-one : r ≤ 3 * q + 2 → q < r → half * 2 ^ 52 + q + 1 ≡ nearest_root (u * units_in_one)
    near-one g h = by (dec_le r (2 * q))
      where
        by : Dec (r ≤ 2 * q) → half * 2 ^ 52 + q + 1 ≡ nearest_root (u * units_in_one)
        by (yes k) = sym (rounded-up q r (this k) h)
        by (no k) =
            let e : half * 2 ^ 52 + q + 1 ≡ half * 2 ^ 52 + (q + 1) = omega arith in
            e ∙ sym (rounded-down (q + 1) (r - 2 * q - 1) (next (omega arith)) (omega arith))

    pub near_none : r ≤ q → half * 2 ^ 52 + q ≡ nearest_root (u * units_in_one)
    near_none h = sym (rounded-down q r (this (omega arith)) h)
