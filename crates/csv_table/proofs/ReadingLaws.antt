-- What the text of a number is read as: its digits, cut at the `p` and at the point, spell the fraction's bits and the
-- one in front of them.
use Prim.Native.Nat.{ℕ, zero, suc, ◌+◌, ◌-◌, ◌*◌, ◌/◌, ◌%◌, ◌^◌, ◌≤◌, ◌<◌}
use mathlib.Core.Path.{◌≡◌, refl, sym, ap, ◌∙◌}
use mathlib.Core.Bool.{Bool, true, false}
use mathlib.Core.List.{List, [], ◌∷◌, ◌++◌}
use native.Mathlib.Nat.{mul_assoc, mul_comm, add-mul, div-lt_iff_lt-mul, mod-lt}
use native.Mathlib.Numerals.{add-one}
use native.Mathlib.Omega.{arith}
use borrow.Author.Tests.{eq-eqb, ne_eqb, le-leb, eqb-true, eqb-false, ltb-true, ltb-false}
use lib.Dec.{eqb, ltb}
use lib.ListN.{length, take, drop}
use lib.Pow.{pow-add}
use lib.Seq.{take-append_seam, drop-append-add}
use Rattle.words.specs.Loop.{pick}
use Rattle.words.proofs.Branch.{pick_yes, pick_no, pick_all}
use Rattle.bits.specs.Digit.{digit_of}
use Rattle.sheet.specs.Digits.{byte_of, power, digits, decimal_of, width_of, after_digit, spelled_of, found_of}
use Rattle.sheet.specs.Sheet.{Every}
use Rattle.std.proofs.Common.{Some}
use Rattle.sheet.proofs.Inverse.{power-some, length_digits, spelled-digits, width-bound}
use Rattle.forecast_text.specs.Printed.{text}
use Rattle.csv_table.specs.NumberText.{trimmed, pointed, fraction_text, exponent_text, magnitude_text}
use Rattle.csv_table.specs.ReadBack.{number, shifted_of, scaled_of, parts_of, unsigned_of}
use Rattle.csv_table.proofs.TrimLaws.{thirteen}
use Rattle.csv_table.proofs.Units.{hidden, units_of}

-- ---- where a byte first stands

found_first : (b : ℕ) (xs rest : List ℕ) → Every (λ x. x ≡ b → ⊥) xs → found_of b (xs ++ (b ∷ rest)) ≡ length xs
unfolding found_of
found_first b [] rest p = pick_yes _ _ (eq-eqb b b refl)
found_first b (x ∷ xs) rest p =
    pick_no _ _ (ne_eqb x b p.0) ∙ ap (λ n. n + 1) (found_first b xs rest p.1) ∙ add-one (length xs)

-- ---- the bytes of digits

-- neither the point nor a `p`
pub record Digital (x : ℕ) : Type 0 where
  pub low : 48 ≤ x
  pub high : x ≤ 102

byte-digital : (d : ℕ) → d < 16 → Digital (byte_of d)
unfolding byte_of
byte-digital d h =
    pick_all Digital (ltb d 10) (48 + d) (87 + d)
    (λ t. let l : d < 10 = ltb-true d 10 t in record { low = omega arith; high = omega arith })
    (λ t. record { low = omega arith; high = omega arith })

digits-digital : (k v : ℕ) → v < power 16 k → Every Digital (digits 16 k v)
unfolding digits power
digits-digital zero v h = tt
digits-digital (suc k) v h =
    let pos : 0 < power 16 k = power-some 16 k (omega arith) in
    let z : v < 16 * power 16 k = omega (arith, mul_comm (power 16 k) 16) in
    (byte-digital (v / power 16 k) ((div-lt_iff_lt-mul pos).1 z), digits-digital k (v % power 16 k) (mod-lt v pos))

-- ---- the digits before the `p`

-- a first digit, 0 or 1, and the fraction's k digits behind it
abbrev headed : ℕ → ℕ → ℕ → List ℕ
headed d k v = (48 + d) ∷ pointed (digits 16 k v)

no-mark : (xs : List ℕ) → Every Digital xs → Every (λ x. x ≡ 112 → ⊥) xs
no-mark [] p = tt
no-mark (x ∷ xs) p = (λ e. let z : ⊥ = omega (arith, p.0.high) in z, no-mark xs p.1)

pointed-no-mark : (ds : List ℕ) → Every Digital ds → Every (λ x. x ≡ 112 → ⊥) (pointed ds)
unfolding pointed text
pointed-no-mark [] p = tt
pointed-no-mark (d ∷ ds) p = (λ e. let z : ⊥ = omega arith in z, no-mark (d ∷ ds) p)

headed-no-mark : (d k v : ℕ) → d ≤ 1 → v < power 16 k → Every (λ x. x ≡ 112 → ⊥) (headed d k v)
headed-no-mark d k v h l =
    (λ e. let z : ⊥ = omega arith in z, pointed-no-mark (digits 16 k v) (digits-digital k v l))

-- what they spell, and how many stand behind the point
pub record Spelled (ds : List ℕ) (places value : ℕ) : Type 0 where
  pub counted : length (drop (found_of 46 ds + 1) ds) ≡ places
  pub spells : spelled_of 16 0 (take (found_of 46 ds) ds ++ drop (found_of 46 ds + 1) ds) ≡ Some value

first-digit : (d : ℕ) (rest : List ℕ) → d ≤ 1 → spelled_of 16 0 ((48 + d) ∷ rest) ≡ spelled_of 16 d rest
unfolding spelled_of after_digit digit_of pick
first-digit zero rest h = refl
first-digit (suc zero) rest h = refl
first-digit (suc (suc d)) rest h = absurd (let z : ⊥ = omega arith in z)

not-point : (d : ℕ) → 48 + d ≡ 46 → ⊥
not-point d e = let z : ⊥ = omega arith in z

no_more : {w : ℕ} (d : ℕ) → d ≡ w → spelled_of 16 d [] ≡ Some w
unfolding spelled_of
no_more d e = ap Some e

headed-spelled : (d k v : ℕ) → d ≤ 1 → v < power 16 k → Spelled (headed d k v) k (d * power 16 k + v)
unfolding pointed digits found_of text power
headed-spelled d zero v h l =
    let at : found_of 46 ((48 + d) ∷ []) ≡ 1 = pick_no _ _ (ne_eqb (48 + d) 46 (not-point d)) in
    let n : d ≡ d * 1 + v = omega arith in
    record { counted = rw at refl; spells = rw at (first-digit d [] h ∙ no_more d n) }
headed-spelled d (suc k) v h l =
    let ds = digits 16 (suc k) v in
    let at : found_of 46 ((48 + d) ∷ 46 ∷ ds) ≡ 1 =
    pick_no _ _ (ne_eqb (48 + d) 46 (not-point d)) ∙ ap (λ n. n + 1) (pick_yes _ _ (eq-eqb 46 46 refl)) in
    record {
      counted = rw at (length_digits 16 (suc k) v);
      spells = rw at (first-digit d ds h ∙ spelled-digits 16 (omega arith) (omega arith) (suc k) v d l);
    }

-- ---- digits, `p` and an exponent

-- the exponent's text behind the `p`, with the sign that it begins with
module _ (s : Bool) (d k v power2 : ℕ) (one : d ≤ 1) (low : v < power 16 k) (few : power2 ≤ 9999999999) where
  decimal-spelled : spelled_of 10 0 (decimal_of power2) ≡ Some power2
  decimal-spelled =
      spelled-digits 10 (omega arith) (omega arith) (width_of power2) power2 0 (width-bound power2 few)
      ∙ ap Some (let z : 0 * power 10 (width_of power2) + power2 ≡ power2 = omega arith in z)

  raised : parts_of s (headed d k v) (43 ∷ decimal_of power2)
      ≡ shifted_of s (d * power 16 k + v) (1074 + power2) (4 * k)
  unfolding parts_of scaled_of pick
  raised =
      let t = headed-spelled d k v one low in
      rw (t.counted, t.spells, decimal-spelled) refl

  lowered : parts_of s (headed d k v) (45 ∷ decimal_of power2)
      ≡ shifted_of s (d * power 16 k + v) 1074 (power2 + 4 * k)
  unfolding parts_of scaled_of pick
  lowered =
      let t = headed-spelled d k v one low in
      rw (t.counted, t.spells, decimal-spelled) refl

  unsigned : (rest : List ℕ)
      → unsigned_of s (48 ∷ 120 ∷ (headed d k v ++ (112 ∷ rest))) ≡ parts_of s (headed d k v) rest
  unfolding unsigned_of pick
  unsigned rest =
      let ds = headed d k v in
      rw (
        found_first 112 ds rest (headed-no-mark d k v one low),
        take-append_seam ds (112 ∷ rest),
        drop-append-add ds (112 ∷ rest) 1,
      ) refl

-- ---- the fraction

-- digits that are kept of f in n digits: f is what they spell, with so many zeros behind
pub record Kept (n f : ℕ) : Type 0 where
  pub width : ℕ
  pub dropped : ℕ
  pub value : ℕ
  pub all : width + dropped ≡ n
  pub low : value < power 16 width
  pub is : f ≡ value * power 16 dropped
  pub text : trimmed n f ≡ digits 16 width value

kept_more : (n f : ℕ) → f % 16 ≡ 0 → Kept n (f / 16) → Kept (suc n) f
unfolding trimmed power
kept_more n f z k =
    record {
      width = k.width;
      dropped = suc k.dropped;
      value = k.value;
      all = omega (arith, k.all);
      low = k.low;
      is = omega (arith, k.is, mul_assoc k.value (power 16 k.dropped) 16);
      text = pick_yes _ _ (eq-eqb (f % 16) 0 z) ∙ k.text;
    }

kept_whole : (n f : ℕ) → (f % 16 ≡ 0 → ⊥) → f < power 16 (suc n) → Kept (suc n) f
unfolding trimmed power
kept_whole n f z h =
    record {
      width = suc n;
      dropped = 0;
      value = f;
      all = omega arith;
      low = h;
      is = omega arith;
      text = pick_no _ _ (ne_eqb (f % 16) 0 z);
    }

kept_by : (n f : ℕ) → f < power 16 (suc n) → (b : Bool) → eqb (f % 16) 0 ≡ b → Kept n (f / 16) → Kept (suc n) f
kept_by n f h true t k = kept_more n f (eqb-true (f % 16) 0 t) k
kept_by n f h false t k = kept_whole n f (eqb-false (f % 16) 0 t) h

pub kept-of : (n f : ℕ) → f < power 16 n → Kept n f
unfolding trimmed power digits
kept-of zero f h =
    record { width = 0; dropped = 0; value = 0; all = refl; low = omega arith; is = omega arith; text = refl }
kept-of (suc n) f h = kept_by n f h (eqb (f % 16) 0) refl (kept-of n (f / 16) (omega arith))

-- ---- whole numbers

sixteens : (k : ℕ) → power 16 k ≡ 2 ^ (4 * k)
unfolding power
sixteens zero = refl
sixteens (suc k) =
    let e : 4 * suc k ≡ 4 * k + 4 = omega arith in
    ap (λ n. n * 16) (sixteens k) ∙ sym (ap (λ n. 2 ^ n) e ∙ pow-add 2 (4 * k) 4)

power-sum : (i j : ℕ) → power 16 (i + j) ≡ power 16 i * power 16 j
power-sum i j =
    sixteens (i + j) ∙ (let e : 4 * (i + j) ≡ 4 * i + 4 * j = omega arith in ap (λ n. 2 ^ n) e)
    ∙ pow-add 2 (4 * i) (4 * j) ∙ ap (λ n. n * 2 ^ (4 * j)) (sym (sixteens i))
    ∙ ap (λ n. power 16 i * n) (sym (sixteens j))

module _ (f : ℕ) (k : Kept 13 f) where
  subnormal-units : k.value * 2 ^ (4 * k.dropped) ≡ f
  subnormal-units = ap (λ n. k.value * n) (sym (sixteens k.dropped)) ∙ sym k.is

  hidden-is : hidden ≡ power 16 k.width * power 16 k.dropped
  hidden-is = sym thirteen ∙ ap (power 16) (sym k.all) ∙ power-sum k.width k.dropped

  normal-units : (j : ℕ) → (1 * power 16 k.width + k.value) * 2 ^ (4 * k.dropped + j) ≡ (hidden + f) * 2 ^ j
  normal-units j =
      let one : 1 * power 16 k.width ≡ power 16 k.width = omega arith in
      ap (λ n. (n + k.value) * 2 ^ (4 * k.dropped + j)) one
      ∙ ap (λ n. (power 16 k.width + k.value) * n)
      (pow-add 2 (4 * k.dropped) j ∙ ap (λ n. n * 2 ^ j) (sym (sixteens k.dropped)))
      ∙ sym (mul_assoc (power 16 k.width + k.value) (power 16 k.dropped) (2 ^ j))
      ∙ ap (λ n. n * 2 ^ j) (add-mul (power 16 k.width) k.value (power 16 k.dropped)
      ∙ ap (λ n. n + k.value * power 16 k.dropped) (sym hidden-is) ∙ ap (λ n. hidden + n) (sym k.is))

shifted : (s : Bool) (m up down n : ℕ) → down + n ≡ up → shifted_of s m up down ≡ number s (m * 2 ^ n)
unfolding shifted_of
shifted s m up down n e =
    let d : up - down ≡ n = omega arith in
    pick_yes _ _ (le-leb down up (omega arith)) ∙ ap (λ z. number s (m * 2 ^ z)) d

-- ---- the whole text

lowest-text : text "p-1022" ≡ 112 ∷ 45 ∷ decimal_of 1022
unfolding text width_of pick digits power byte_of
lowest-text = refl

module _ (s : Bool) (f : ℕ) (low : f < hidden) where
  kept13 : Kept 13 f
  kept13 = kept-of 13 f (rw thirteen low)

  subnormal-read : unsigned_of s (text "0x0" ++ fraction_text f ++ text "p-1022") ≡ number s f
  unfolding text
  subnormal-read =
      let k = kept13 in
      ap (λ l. unsigned_of s (48 ∷ 120 ∷ 48 ∷ (fraction_text f ++ l))) lowest-text
      ∙ ap (λ l. unsigned_of s (48 ∷ 120 ∷ 48 ∷ (pointed l ++ (112 ∷ 45 ∷ decimal_of 1022)))) k.text
      ∙ unsigned s 0 k.width k.value 1022 (omega arith) k.low (omega arith) (45 ∷ decimal_of 1022)
      ∙ lowered s 0 k.width k.value 1022 (omega arith) k.low (omega arith)
      ∙ shifted s (0 * power 16 k.width + k.value) 1074 (1022 + 4 * k.width) (4 * k.dropped)
      (omega (arith, k.all))
      ∙ ap (λ m. number s (m * 2 ^ (4 * k.dropped)))
      (let z : 0 * power 16 k.width + k.value ≡ k.value = omega arith in z)
      ∙ ap (number s) (subnormal-units f k)

  -- an exponent below 0, and another
  lowered-read : (e : ℕ) → e < 1022
      → unsigned_of s (text "0x1" ++ fraction_text f ++ (text "p-" ++ decimal_of (1022 - e)))
      ≡ number s (units_of (suc e) f)
  unfolding text units_of
  lowered-read e h =
      let k = kept13 in
      ap (λ l. unsigned_of s (48 ∷ 120 ∷ 49 ∷ (pointed l ++ (112 ∷ 45 ∷ decimal_of (1022 - e))))) k.text
      ∙ unsigned s 1 k.width k.value (1022 - e) (omega arith) k.low (omega arith) (45 ∷ decimal_of (1022 - e))
      ∙ lowered s 1 k.width k.value (1022 - e) (omega arith) k.low (omega arith)
      ∙ shifted s (1 * power 16 k.width + k.value) 1074 (1022 - e + 4 * k.width) (4 * k.dropped + e)
      (omega (arith, k.all))
      ∙ ap (number s) (normal-units f k e)

  raised-read : (e : ℕ) → 1022 ≤ e → e < 2047
      → unsigned_of s (text "0x1" ++ fraction_text f ++ (text "p+" ++ decimal_of (e - 1022)))
      ≡ number s (units_of (suc e) f)
  unfolding text units_of
  raised-read e h l =
      let k = kept13 in
      ap (λ l. unsigned_of s (48 ∷ 120 ∷ 49 ∷ (pointed l ++ (112 ∷ 43 ∷ decimal_of (e - 1022))))) k.text
      ∙ unsigned s 1 k.width k.value (e - 1022) (omega arith) k.low (omega arith) (43 ∷ decimal_of (e - 1022))
      ∙ raised s 1 k.width k.value (e - 1022) (omega arith) k.low (omega arith)
      ∙ shifted s (1 * power 16 k.width + k.value) (1074 + (e - 1022)) (4 * k.width) (4 * k.dropped + e)
      (omega (arith, k.all))
      ∙ ap (number s) (normal-units f k e)

no-exponent : (f : ℕ)
    → magnitude_text 0 f ≡ pick (eqb f 0) (text "0x0p+0") (text "0x0" ++ fraction_text f ++ text "p-1022")
unfolding magnitude_text
no-exponent f = pick_no _ _ (ne_eqb 0 2047 (λ e. let z : ⊥ = omega arith in z)) ∙ pick_yes _ _ (eq-eqb 0 0 refl)

some-exponent : (e f : ℕ) → suc e < 2047
    → magnitude_text (suc e) f ≡ text "0x1" ++ fraction_text f ++ exponent_text (suc e)
unfolding magnitude_text
some-exponent e f h =
    pick_no _ _ (ne_eqb (suc e) 2047 (λ q. let z : ⊥ = omega arith in z))
    ∙ pick_no _ _ (ne_eqb (suc e) 0 (λ q. let z : ⊥ = omega arith in z))

zero-read : (s : Bool) → unsigned_of s (text "0x0p+0") ≡ number s 0
unfolding text unsigned_of parts_of scaled_of shifted_of spelled_of after_digit found_of digit_of pick
zero-read s = refl

module _ (s : Bool) (f : ℕ) (low : f < hidden) where
  normal-read : (e : ℕ) → suc e < 2047
      → unsigned_of s (text "0x1" ++ fraction_text f ++ exponent_text (suc e)) ≡ number s (units_of (suc e) f)
  unfolding exponent_text
  normal-read e h =
      pick_all (λ t. unsigned_of s (text "0x1" ++ fraction_text f ++ t) ≡ number s (units_of (suc e) f))
      (ltb (suc e) 1023) _ _
      (λ t. let l : suc e < 1023 = ltb-true (suc e) 1023 t in
      let z : 1023 - suc e ≡ 1022 - e = omega arith in
      rw z (lowered-read s f low e (omega arith)))
      (λ t. let l : 1023 ≤ suc e = ltb-false (suc e) 1023 t in
      let z : suc e - 1023 ≡ e - 1022 = omega arith in
      rw z (raised-read s f low e (omega arith) (omega arith)))

  pub magnitude-read : (e : ℕ) → e < 2047 → unsigned_of s (magnitude_text e f) ≡ number s (units_of e f)
  unfolding units_of
  magnitude-read zero h =
      ap (unsigned_of s) (no-exponent f)
      ∙ pick_all (λ t. unsigned_of s t ≡ number s f) (eqb f 0) (text "0x0p+0") _
      (λ t. zero-read s ∙ ap (number s) (sym (eqb-true f 0 t))) (λ t. subnormal-read s f low)
  magnitude-read (suc e) h = ap (unsigned_of s) (some-exponent e f h) ∙ normal-read e h
