-- A finite double is a whole number of 2^-1074, and no two have the same number of them and the same sign.
use Prim.Native.Nat.{ℕ, zero, suc, ◌+◌, ◌-◌, ◌*◌, ◌^◌, ◌≤◌, ◌<◌}
use mathlib.Core.Path.{◌≡◌, refl, sym, ap, subst, ◌∙◌}
use mathlib.Core.Bool.{Bool, true, false, not, cond}
use native.Mathlib.Nat.{mul-one, mul_assoc, mul_comm, mul-le-mul_left, eq_of_mul-eq-mul_right}
use native.Mathlib.Nat.{div-add-mod', mod-mod_of_dvd, dvd-mul_right}
use native.Mathlib.Omega.{arith}
use borrow.Author.Tests.{ne_eqb, leb-true, leb-false, eqb-true, eqb-false}
use lib.Arith.{lt_of_le-ne}
use lib.Dec.{T, eqb, leb}
use lib.Pow.{pow-add, pow_pos}
use lib.Ieee.{Float, nan, inf, binary64, fits, odd, of_fields, of_bits, to_bits}
use lib.Ieee.Bits.{of_bits-to_bits, to_bits-lt, cond_no}
use lib.Ieee.Exact.{HasValue, odd_sign}
use lib.Ieee.Scale.{finite}
use Rattle.words.specs.Loop.{pick}
use Rattle.words.proofs.Branch.{pick_all}
use Rattle.csv_table.specs.NumberText.{magnitude, exponent_of, fraction_of}
use Rattle.csv_table.specs.ReadBack.{smallest}

-- the hidden bit, above every fraction
abbrev pub hidden : ℕ
hidden = 0x0010_0000_0000_0000

-- how many times 2^-1074 the exponent and the fraction of the bits stand for
unfoldable pub units_of : ℕ → ℕ → ℕ
units_of zero f = f
units_of (suc k) f = (hidden + f) * 2 ^ k

-- ---- the value

not-ones : (k : ℕ) → suc k < 2047 → T (not (eqb (suc k) 2047))
not-ones k h = subst (λ (b : Bool). T (not b)) (sym (ne_eqb (suc k) 2047 (λ e. let z : ⊥ = omega arith in z))) tt

pub fields_value : (s : Bool) (e f : ℕ) → e < 2047
    → HasValue (of_fields binary64 s e f) s (units_of e f) (2 ^ smallest)
unfolding units_of of_fields
fields_value s zero f h = subst (λ n. HasValue (odd 53 s f 0 1074) s n (2 ^ 1074)) (mul-one f) (odd_sign 53 s f 0 1074)
fields_value s (suc k) f h =
    subst (λ x. HasValue x s ((hidden + f) * 2 ^ k) (2 ^ 1074))
    (sym (cond_no (eqb (suc k) 2047) (cond (eqb f 0) (inf s) nan) (odd 53 s (hidden + f) k 1074) (not-ones k h)))
    (odd_sign 53 s (hidden + f) k 1074)

-- ---- one number of units, one pattern

-- where the exponents differ, the units do
doubled : (f g d : ℕ) → f < hidden → hidden + f ≡ (hidden + g) * 2 ^ suc d → ⊥
doubled f g d h e =
    let next : suc d ≡ 1 + d = omega arith in
    let two : 2 ^ suc d ≡ 2 * 2 ^ d = ap (λ n. 2 ^ n) next ∙ pow-add 2 1 d in
    let least : (hidden + g) * 2 ≤ (hidden + g) * 2 ^ suc d =
    mul-le-mul_left (hidden + g) (let z : 2 ≤ 2 ^ suc d = omega (arith, two, pow_pos d) in z) in
    let z : ⊥ = omega arith in z

same_power : (f g j d : ℕ) → (hidden + f) * 2 ^ j ≡ (hidden + g) * 2 ^ (j + d) → hidden + f ≡ (hidden + g) * 2 ^ d
same_power f g j d e =
    eq_of_mul-eq-mul_right (2 ^ j) (pow_pos j) (hidden + f) ((hidden + g) * 2 ^ d)
    (e ∙ ap (λ n. (hidden + g) * n) (pow-add 2 j d ∙ mul_comm (2 ^ j) (2 ^ d))
    ∙ sym (mul_assoc (hidden + g) (2 ^ d) (2 ^ j)))

ordered_same : (f g j d : ℕ) → f < hidden → (hidden + f) * 2 ^ j ≡ (hidden + g) * 2 ^ (j + d) → (d ≡ 0) × (f ≡ g)
ordered_same f g j zero h e = (refl, omega (arith, same_power f g j zero e))
ordered_same f g j (suc d) h e = absurd (doubled f g d h (same_power f g j (suc d) e))

normal-same : (f g j k : ℕ) → f < hidden → g < hidden → (hidden + f) * 2 ^ j ≡ (hidden + g) * 2 ^ k
    → (suc j ≡ suc k) × (f ≡ g)
normal-same f g j k hf hg e = go (leb j k) refl
  where
    go : (b : Bool) → leb j k ≡ b → (suc j ≡ suc k) × (f ≡ g)
    go true t =
        let l : j ≤ k = leb-true j k t in
        let s : j + (k - j) ≡ k = omega arith in
        let r = ordered_same f g j (k - j) hf (e ∙ ap (λ n. (hidden + g) * 2 ^ n) (sym s)) in
        (omega (arith, r.0), r.1)
    go false t =
        let l : k < j = leb-false j k t in
        let s : k + (j - k) ≡ j = omega arith in
        let r = ordered_same g f k (j - k) hg (sym e ∙ ap (λ n. (hidden + f) * 2 ^ n) (sym s)) in
        (omega (arith, r.0), sym r.1)

-- a normal number has more units than a subnormal one
more : (f g k : ℕ) → f < hidden → f ≡ (hidden + g) * 2 ^ k → ⊥
more f g k h e =
    let least : (hidden + g) * 1 ≤ (hidden + g) * 2 ^ k = mul-le-mul_left (hidden + g) (pow_pos k) in
    let z : ⊥ = omega arith in z

pub units-same : (e f e' f' : ℕ) → f < hidden → f' < hidden → units_of e f ≡ units_of e' f' → (e ≡ e') × (f ≡ f')
unfolding units_of
units-same zero f zero f' h h' u = (refl, u)
units-same zero f (suc k) f' h h' u = absurd (more f f' k h u)
units-same (suc j) f zero f' h h' u = absurd (more f' f j h' (sym u))
units-same (suc j) f (suc k) f' h h' u = normal-same f f' j k h h' u

-- ---- the fields are the pattern

abbrev pub negative_of : ℕ → Bool
negative_of bits = leb 0x8000_0000_0000_0000 bits

magnitude-is : (p : ℕ) → magnitude p ≡ exponent_of p * hidden + fraction_of p
magnitude-is p =
    sym (div-add-mod' (magnitude p) hidden)
    ∙ ap (λ n. exponent_of p * hidden + n) (mod-mod_of_dvd hidden p (dvd-mul_right hidden 2048))

pattern-is : (p : ℕ) → p < 2 ^ 64
    → p ≡ pick (negative_of p) (0x8000_0000_0000_0000 + magnitude p) (magnitude p)
pattern-is p h =
    pick_all (λ n. p ≡ n) (negative_of p) (0x8000_0000_0000_0000 + magnitude p) (magnitude p)
    (λ t. let l = leb-true 0x8000_0000_0000_0000 p t in omega arith)
    (λ t. let l = leb-false 0x8000_0000_0000_0000 p t in omega arith)

pub fields-same : (p q : ℕ) → p < 2 ^ 64 → q < 2 ^ 64 → negative_of p ≡ negative_of q → exponent_of p ≡ exponent_of q
    → fraction_of p ≡ fraction_of q → p ≡ q
fields-same p q hp hq s e f =
    let m : magnitude p ≡ magnitude q =
    magnitude-is p ∙ ap (λ n. n * hidden + fraction_of p) e ∙ ap (λ n. exponent_of q * hidden + n) f
    ∙ sym (magnitude-is q) in
    pattern-is p hp ∙ ap (λ b. pick b (0x8000_0000_0000_0000 + magnitude p) (magnitude p)) s
    ∙ ap (λ n. pick (negative_of q) (0x8000_0000_0000_0000 + n) n) m ∙ sym (pattern-is q hq)

-- ---- a finite double by its bits

infinite : (s b : Bool) → T (finite (cond b (inf s) nan)) → ⊥
infinite s true t = t
infinite s false t = t

ones-high : (s : Bool) (f : ℕ) → T (finite (of_fields binary64 s 2047 f)) → ⊥
unfolding of_fields
ones-high s f = infinite s (eqb f 0)

below-ones : (n : ℕ) → (n ≡ 2047 → ⊥) → n < 2048 → n < 2047
below-ones n d l = lt_of_le-ne (let z : n ≤ 2047 = omega arith in z) d

module _ (x : Float) (fit : T (fits binary64 x)) (is : T (finite x)) where
  abbrev bits : ℕ
  bits = to_bits binary64 x

  back : of_fields binary64 (negative_of bits) (exponent_of bits) (fraction_of bits) ≡ x
  unfolding of_bits
  back = of_bits-to_bits binary64 x fit

  pub exponent-low : exponent_of bits < 2047
  exponent-low = low (eqb (exponent_of bits) 2047) refl
    where
      low : (b : Bool) → eqb (exponent_of bits) 2047 ≡ b → exponent_of bits < 2047
      low true t =
          let e : exponent_of bits ≡ 2047 = eqb-true (exponent_of bits) 2047 t in
          absurd (ones-high (negative_of bits) (fraction_of bits) (subst (λ y. T (finite y))
          (sym (ap (λ n. of_fields binary64 (negative_of bits) n (fraction_of bits)) (sym e) ∙ back)) is))
      low false t = below-ones (exponent_of bits) (eqb-false (exponent_of bits) 2047 t) (omega arith)

  pub bits-low : bits < 2 ^ 64
  bits-low = to_bits-lt binary64 x fit

  pub value : HasValue x (negative_of bits) (units_of (exponent_of bits) (fraction_of bits)) (2 ^ smallest)
  value =
      subst (λ y. HasValue y (negative_of bits) (units_of (exponent_of bits) (fraction_of bits)) (2 ^ smallest)) back
      (fields_value (negative_of bits) (exponent_of bits) (fraction_of bits) exponent-low)
