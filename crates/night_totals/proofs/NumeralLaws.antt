-- Numerals digit by digit, the last one last: a number below ten has one digit, and v * 10 + d has those of v and
-- then d.
use Rattle.std.proofs.Common.{◌≡◌, ℕ, zero, suc, ◌+◌, ◌*◌, ◌/◌, ◌%◌, ◌^◌, ◌<◌, ◌≤◌, ltb, [], ◌∷◌, ◌++◌, sym, refl, ap}
use Rattle.std.proofs.Common.{◌∙◌, mul-le-mul_right, mod-lt, mod-eq_of_lt, mul_comm, div-add-mod', div-one, add-one}
use Rattle.std.proofs.Common.{arith, le-ltb, lt-ltb}
use native.Mathlib.Nat.{div-eq_of_lt, div-div-eq-div-mul}
use native.Mathlib.Nat.{mul-add-div_right, mul-add-mod_self_right}
use Rattle.words.specs.Loop.{pick}
use Rattle.words.proofs.Branch.{pick_yes, pick_no, pick_all}
use Rattle.sheet.specs.Digits.{byte_of, power, digits}
use Rattle.sheet.proofs.Inverse.{power-some}
use Rattle.forecast_text.specs.Printed.{width_in, numeral_of}
use Rattle.forecast_text.proofs.DigitLaws.{width-spells, twenty}

-- ---- one digit more

module _ (p v d : ℕ) (pos : 0 < p) (small : d < 10) where
  low : (v * 10 + d) % (p * 10) ≡ v % p * 10 + d
  low =
      let r : v % p < p = mod-lt v pos in
      let m : suc (v % p) * 10 ≤ p * 10 = mul-le-mul_right 10 r in
      let e : v * 10 + d ≡ v / p * (p * 10) + (v % p * 10 + d) = omega (arith, ap (λ x. x * 10) (div-add-mod' v p)) in
      ap (λ x. x % (p * 10)) e ∙ mul-add-mod_self_right (v / p) (p * 10) (v % p * 10 + d) ∙ mod-eq_of_lt (omega arith)

  high : (v * 10 + d) / (p * 10) ≡ v / p
  high =
      let t : 0 < 10 = omega arith in
      let z : v + 0 ≡ v = omega arith in
      ap (λ x. (v * 10 + d) / x) (mul_comm p 10) ∙ sym (div-div-eq-div-mul (v * 10 + d) 10 p)
      ∙ ap (λ x. x / p) (mul-add-div_right t v d ∙ ap (λ x. v + x) (div-eq_of_lt small) ∙ z)

digits_more : (k v d : ℕ) → d < 10 → v < power 10 k
    → digits 10 (suc k) (v * 10 + d) ≡ digits 10 k v ++ (byte_of d ∷ [])
unfolding digits power
digits_more zero v d h l =
    let z : v * 10 + d ≡ d = omega arith in ap (λ x. byte_of x ∷ []) (div-one (v * 10 + d) ∙ z)
digits_more (suc k) v d h l =
    let pos : 0 < power 10 k = power-some 10 k (omega arith) in
    ap (λ x. byte_of x ∷ digits 10 (suc k) ((v * 10 + d) % (power 10 k * 10))) (high (power 10 k) v d pos h)
    ∙ ap (λ x. byte_of (v / power 10 k) ∷ digits 10 (suc k) x) (low (power 10 k) v d pos h)
    ∙ ap (λ l. byte_of (v / power 10 k) ∷ l) (digits_more k (v % power 10 k) d h (mod-lt v pos))

-- ---- how many digits

-- a number that is spelled with fewer digits has as many, however many are allowed
width-enough : (k v : ℕ) → v < power 10 (suc k) → width_in (suc k) v ≡ width_in k v
unfolding width_in power
width-enough zero v h = pick_yes _ _ (lt-ltb v 10 (omega arith))
width-enough (suc k) v h =
    pick_all (λ n. pick (ltb v 10) 1 (width_in (suc k) (v / 10) + 1) ≡ n) (ltb v 10) 1 (width_in k (v / 10) + 1)
    (λ e. pick_yes _ _ e)
    (λ e. pick_no _ _ e ∙ ap (λ n. n + 1) (width-enough k (v / 10) (omega arith)))

byte-is : (d : ℕ) → d < 10 → byte_of d ≡ 48 + d
unfolding byte_of
byte-is d h = pick_yes _ _ (lt-ltb d 10 h)

pub numeral-one : (d : ℕ) → d < 10 → numeral_of d ≡ (48 + d) ∷ []
unfolding digits power width_in
numeral-one d h =
    ap (λ n. digits 10 n d) (pick_yes _ _ (lt-ltb d 10 h))
    ∙ ap (λ x. byte_of x ∷ []) (div-one d)
    ∙ ap (λ x. x ∷ []) (byte-is d h)

nineteen : power 10 19 ≡ 10 ^ 19
unfolding power
nineteen = refl

pub numeral-more : (v d : ℕ) → 0 < v → v < 1000000000000000 → d < 10
    → numeral_of (v * 10 + d) ≡ numeral_of v ++ ((48 + d) ∷ [])
unfolding width_in
numeral-more v d pos l h =
    let t : 0 < 10 = omega arith in
    let z : (v * 10 + d) / 10 ≡ v = omega arith in
    let w : width_in 19 (v * 10 + d) ≡ suc (width_in 19 v) =
    pick_no _ _ (le-ltb (v * 10 + d) 10 (omega arith))
    ∙ ap (λ x. width_in 18 x + 1) z
    ∙ ap (λ n. n + 1) (sym (width-enough 18 v (omega (arith, nineteen))))
    ∙ add-one (width_in 19 v) in
    ap (λ n. digits 10 n (v * 10 + d)) w
    ∙ digits_more (width_in 19 v) v d h (width-spells 19 v (omega (arith, twenty)))
    ∙ ap (λ x. numeral_of v ++ (x ∷ [])) (byte-is d h)
