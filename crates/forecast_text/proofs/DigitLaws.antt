-- A number's digits: the last one is the remainder, a number has one decimal digit more than its tenth, and no
-- more than twenty below 2^64.
use Prim.Native.Nat.{ℕ, zero, suc, ◌+◌, ◌-◌, ◌*◌, ◌/◌, ◌%◌, ◌^◌, ◌≤◌, ◌<◌}
use mathlib.Core.Path.{◌≡◌, refl, sym, ap, ◌∙◌}
use mathlib.Core.List.{List, [], ◌∷◌, ◌++◌}
use native.Mathlib.Nat.{mod-lt, mod-eq_of_lt, div-one, div-eq_of_lt, div-add-mod', div-div-eq-div-mul}
use native.Mathlib.Nat.{div-lt_iff_lt-mul, mul_comm, mul-add-div_right, mul-add-mod_self_right, mul-le-mul_right}
use native.Mathlib.Numerals.{add-one, unary_clauses}
use native.Mathlib.Nat.{pow-suc}
use Rattle.words.specs.Loop.{pick}
use native.Mathlib.Omega.{arith}
use borrow.Author.Tests.{lt-ltb, le-ltb, ltb-true, ltb-false}
use Rattle.std.specs.Prelude.{◌⊎◌, min, max}
use Rattle.std.proofs.Common.{inl, inr}
use lib.Dec.{ltb}
use lib.ListN.{length, set, take, replicate, length-replicate}
use lib.Seq.{sets}
use Rattle.words.proofs.Branch.{pick_yes, pick_no, pick_all}
use Rattle.sheet.specs.Digits.{byte_of, power, digits, hex_of, width_of, decimal_of}
use Rattle.sheet.specs.Reader.{over}
use Rattle.sheet.proofs.DigitsLaws.{sixteen}
use Rattle.sheet.proofs.Inverse.{length_digits, power-some}
use Rattle.forecast_text.specs.Printed.{width_in, numeral_of}
use Rattle.forecast_text.specs.Put.{Put}
use Rattle.forecast_text.specs.Numerals.{lowest, last_digits}
use Rattle.forecast_text.proofs.PutLaws.{sets_last, over-put, put-cut}

-- ---- the last digit

-- it has a byte of its own in every base up to sixteen
pub last_byte : (v b : ℕ) → 0 < b → b ≤ 16 → byte_of (v % b % 16) ≡ byte_of (v % b)
last_byte v b some few = ap byte_of (mod-eq_of_lt (omega (arith, mod-lt v some)))

module _ (b : ℕ) (some : 0 < b) where
  module _ (p v : ℕ) (pos : 0 < p) where
    -- what is left of v below p * b
    abbrev kept : ℕ
    kept = v / b % p * b + v % b

    low : v % (p * b) ≡ kept
    low =
        let u : v % b < b = mod-lt v some in
        let r : v / b % p < p = mod-lt (v / b) pos in
        let m : suc (v / b % p) * b ≤ p * b = mul-le-mul_right b r in
        let e : v
        ≡ v / b / p * (p * b) + kept = omega (arith, ap (λ x. x * b) (div-add-mod' (v / b) p), div-add-mod' v b) in
        ap (λ x. x % (p * b)) e ∙ mul-add-mod_self_right (v / b / p) (p * b) kept ∙ mod-eq_of_lt (omega arith)

    low_digit : v % (p * b) % b ≡ v % b
    low_digit = ap (λ x. x % b) low ∙ mul-add-mod_self_right (v / b % p) b (v % b) ∙ mod-eq_of_lt (mod-lt v some)

    low-rest : v % (p * b) / b ≡ v / b % p
    low-rest =
        ap (λ x. x / b) low ∙ mul-add-div_right some (v / b % p) (v % b)
        ∙ ap (λ x. v / b % p + x) (div-eq_of_lt (mod-lt v some))
        ∙ (let z : v / b % p + 0 ≡ v / b % p = omega arith in z)

    high : v / (p * b) ≡ v / b / p
    high = ap (λ x. v / x) (mul_comm p b) ∙ sym (div-div-eq-div-mul v b p)

  digits_last : (k v : ℕ) → v < power b (suc k) → digits b (suc k) v ≡ digits b k (v / b) ++ (byte_of (v % b) ∷ [])
  unfolding digits power
  digits_last zero v h = ap (λ x. byte_of x ∷ []) (div-one v ∙ sym (mod-eq_of_lt (let z : v < b = omega arith in z)))
  digits_last (suc k) v h =
      let pos : 0 < power b k = power-some b k some in
      ap (λ x. byte_of x ∷ digits b (suc k) (v % (power b k * b))) (high (power b k) v pos)
      ∙ ap (λ l. byte_of (v / b / power b k) ∷ l)
      (digits_last k (v % (power b k * b)) (mod-lt v (power-some b (suc k) some))
      ∙ ap (λ x. digits b k x ++ (byte_of (v % (power b k * b) % b) ∷ [])) (low-rest (power b k) v pos)
      ∙ ap (λ x. digits b k (v / b % power b k) ++ (byte_of x ∷ [])) (low_digit (power b k) v pos))

  -- a turn of the loop that puts the last digit first
  pub record Placed (left v at : ℕ) (m : List ℕ) : Type 0 where
    pub fits : v / b < power b (left - 1)
    pub is : sets (set m (at + (left - 1)) (byte_of (v % b))) at (digits b (left - 1) (v / b))
        ≡ sets m at (digits b left v)

  pub digit-turn : (left v at : ℕ) (m : List ℕ) → 0 < left → v < power b left → Placed left v at m
  unfolding power
  digit-turn zero v at m s h = absurd (let z : ⊥ = omega arith in z)
  digit-turn (suc k) v at m s h =
      let e : suc k - 1 ≡ k = omega arith in
      record {
        fits = rw e ((div-lt_iff_lt-mul some).1 h);
        is = rw e (sym (ap (λ l. sets m at l) (digits_last k v h)
            ∙ sets_last (digits b k (v / b)) m at (byte_of (v % b))
            ∙ ap (λ n. sets (set m (at + n) (byte_of (v % b))) at (digits b k (v / b))) (length_digits b k (v / b))));
      }

  -- the same of any number, whose last digits are put
  pub last-turn : (left v at : ℕ) (m : List ℕ) → 0 < left
      → sets (set m (at + (left - 1)) (byte_of (v % b))) at (digits b (left - 1) (v / b % power b (left - 1)))
      ≡ sets m at (digits b left (v % power b left))
  unfolding power
  last-turn zero v at m s = absurd (let z : ⊥ = omega arith in z)
  last-turn (suc k) v at m s =
      let e : suc k - 1 ≡ k = omega arith in
      let pos : 0 < power b k = power-some b k some in
      let t = digit-turn (suc k) (v % (power b k * b)) at m s (mod-lt v (power-some b (suc k) some)) in
      rw (e, ← low_digit (power b k) v pos, ← low-rest (power b k) v pos) (rw e at t.is)

-- no digit is left to put
pub digits-put : (b width value left rest at : ℕ) {m₀ m : List ℕ} → left ≤ 0
    → sets m at (digits b left rest) ≡ sets m₀ at (digits b width value)
    → Put at (digits b width value) m₀ m (at + width)
unfolding digits
digits-put b width value zero rest at h e = record {
  ends = ap (λ n. at + n) (sym (length_digits b width value));
  is = e;
}
digits-put b width value (suc k) rest at h e = absurd (let z : ⊥ = omega arith in z)

pub length-lowest : (b n v : ℕ) → length (lowest b n v) ≡ n
length-lowest b n v = length_digits b n (v % power b n)

-- of a number that they spell, the last digits are all
pub lowest-spelt : (b n v : ℕ) → v < power b n → lowest b n v ≡ digits b n v
lowest-spelt b n v spelt = ap (digits b n) (mod-eq_of_lt spelt)

module _ (base width v : ℕ) (least : 2 ≤ base) (most : base ≤ 16) (few : width ≤ 20) where
  pub last-lowest : last_digits base width v ≡ lowest base width v
  unfolding last_digits
  last-lowest =
      let b : max 2 (min base 16) ≡ base = omega arith in
      let n : min width 20 ≡ width = omega arith in
      rw (b, n) refl

  pub last-spelt : v < power base width → last_digits base width v ≡ digits base width v
  last-spelt spelt = last-lowest ∙ lowest-spelt base width v spelt

  -- they stand in the first of twenty bytes
  pub lowest-first : take width (over (last_digits base width v) (replicate 20 0)) ≡ lowest base width v
  lowest-first =
      let room : width ≤ length {A = ℕ} (replicate 20 0) = omega (arith, length-replicate {A = ℕ} 20 0) in
      rw last-lowest
      (put-cut width (over-put (lowest base width v) (replicate 20 0)) (length-lowest base width v) room)

  -- and where they spell the number, it does
  pub spelt-first : v < power base width
      → take width (over (last_digits base width v) (replicate 20 0)) ≡ digits base width v
  spelt-first spelt = lowest-first ∙ lowest-spelt base width v spelt

-- ---- how many digits

pub width_few : (k v : ℕ) → width_in k v ≤ k + 1
unfolding width_in
width_few zero v = omega arith
width_few (suc k) v =
    pick_all (λ n. n ≤ suc k + 1) (ltb v 10) 1 (width_in k (v / 10) + 1) (λ e. omega arith)
    (λ e. omega (arith, width_few k (v / 10)))

pub width-spells : (k v : ℕ) → v < power 10 (suc k) → v < power 10 (width_in k v)
unfolding width_in power
width-spells zero v h = h
width-spells (suc k) v h =
    pick_all (λ n. v < power 10 n) (ltb v 10) 1 (width_in k (v / 10) + 1) (λ e. ltb-true v 10 e)
    (λ e. let i : v / 10 < power 10 (width_in k (v / 10)) = width-spells k (v / 10) (omega arith) in
    let s : width_in k (v / 10) + 1 ≡ suc (width_in k (v / 10)) = add-one (width_in k (v / 10)) in
    rw s (omega arith))

pub twenty : power 10 20 ≡ 10 ^ 20
unfolding power
twenty = refl

-- any count is spelt so in base 10, and in base 16 by sixteen
pub numeral-lowest : (v w : ℕ) → v < 2 ^ 64 → w ≡ width_in 19 v → lowest 10 w v ≡ numeral_of v
numeral-lowest v w h e =
    rw e (lowest-spelt 10 (width_in 19 v) v (width-spells 19 v (omega (arith, twenty))))

pub hex-lowest : (v : ℕ) → v < 2 ^ 64 → lowest 16 16 v ≡ hex_of v
hex-lowest v h = lowest-spelt 16 16 v (omega (arith, sixteen))

-- ---- the digits of a sheet's decimals are those of any count

width-is : (k n v : ℕ) → n ≤ k → power 10 n ≤ v ⊎ (n ≡ 0) → v < power 10 (suc n) → width_in k v ≡ suc n
unfolding width_in power
width-is zero zero v l low high = refl
width-is zero (suc n) v l low high = absurd (let z : ⊥ = omega arith in z)
width-is (suc k) zero v l low high = pick_yes _ _ (lt-ltb v 10 (omega arith))
width-is (suc k) (suc n) v l (inr z) high = absurd (let z : ⊥ = omega arith in z)
width-is (suc k) (suc n) v l (inl low) high =
    let some : 0 < power 10 n = power-some 10 n (omega arith) in
    let more : 10 ≤ v = omega arith in
    let e : width_in k (v / 10) ≡ suc n =
    width-is k n (v / 10) (omega arith) (inl (let z : power 10 n ≤ v / 10 = omega arith in z)) (omega arith) in
    pick_no _ _ (le-ltb v 10 more) ∙ ap (λ x. x + 1) e ∙ add-one (suc n)

width-same : (v : ℕ) → v < 10000000000 → width_of v ≡ width_in 19 v
unfolding width_of power
width-same v h =
    let P : ℕ → Type 0 = λ n. n ≡ width_in 19 v in
    pick_all P (ltb v 10) 1 _
    (λ e. sym (width-is 19 0 v (omega arith) (inr refl) (omega (arith, ltb-true v 10 e))))
    (λ e1. pick_all P (ltb v 100) 2 _
    (λ e. sym (width-is 19 1 v (omega arith) (inl (omega (arith, ltb-false v 10 e1)))
    (omega (arith, ltb-true v 100 e))))
    (λ e2. pick_all P (ltb v 1000) 3 _
    (λ e. sym (width-is 19 2 v (omega arith) (inl (omega (arith, ltb-false v 100 e2)))
    (omega (arith, ltb-true v 1000 e))))
    (λ e3. pick_all P (ltb v 10000) 4 _
    (λ e. sym (width-is 19 3 v (omega arith) (inl (omega (arith, ltb-false v 1000 e3)))
    (omega (arith, ltb-true v 10000 e))))
    (λ e4. pick_all P (ltb v 100000) 5 _
    (λ e. sym (width-is 19 4 v (omega arith) (inl (omega (arith, ltb-false v 10000 e4)))
    (omega (arith, ltb-true v 100000 e))))
    (λ e5. pick_all P (ltb v 1000000) 6 _
    (λ e. sym (width-is 19 5 v (omega arith) (inl (omega (arith, ltb-false v 100000 e5)))
    (omega (arith, ltb-true v 1000000 e))))
    (λ e6. pick_all P (ltb v 10000000) 7 _
    (λ e. sym (width-is 19 6 v (omega arith) (inl (omega (arith, ltb-false v 1000000 e6)))
    (omega (arith, ltb-true v 10000000 e))))
    (λ e7. pick_all P (ltb v 100000000) 8 _
    (λ e. sym (width-is 19 7 v (omega arith) (inl (omega (arith, ltb-false v 10000000 e7)))
    (omega (arith, ltb-true v 100000000 e))))
    (λ e8. pick_all P (ltb v 1000000000) 9 _
    (λ e. sym (width-is 19 8 v (omega arith) (inl (omega (arith, ltb-false v 100000000 e8)))
    (omega (arith, ltb-true v 1000000000 e))))
    (λ e9. sym (width-is 19 9 v (omega arith) (inl (omega (arith, ltb-false v 1000000000 e9))) (omega arith)))))))))))

pub decimal-numeral : (v : ℕ) → v < 10000000000 → decimal_of v ≡ numeral_of v
decimal-numeral v h = ap (λ n. digits 10 n v) (width-same v h)

-- ---- by the logarithm

power-is : (b k : ℕ) → power b k ≡ b ^ k
unfolding power
power-is b zero = simp unary_clauses
power-is b (suc k) = ap (λ x. x * b) (power-is b k) ∙ sym (pow-suc b k)

pub width-log : (n v : ℕ) → n < 20 → 10 ^ n ≤ v → v < 10 * 10 ^ n → n + 1 ≡ width_in 19 v
unfolding power
width-log n v few low high =
    let p = power-is 10 n in
    add-one n ∙ sym (width-is 19 n v (omega arith) (inl (omega arith)) (omega arith))

pub width-none : (v : ℕ) → v ≡ 0 → 1 ≡ width_in 19 v
unfolding width_in pick
width-none v e = rw e refl
