-- A text read byte by byte: what `spelled` has done so far is what the definitions make of the bytes passed, and a
-- spelled number fits; and where a byte first stands.
use Rattle.std.proofs.Common.{◌≡◌, ℕ, zero, suc, ◌+◌, ◌-◌, ◌*◌, ◌^◌, ◌≤◌, ◌<◌, Bool, true, false, cond, not}
use Rattle.std.proofs.Common.{None, Some, unwrap_or, List, [], ◌∷◌, refl, sym, ap, ◌∙◌, eqb, ltb}
use native.Mathlib.Nat.{mul-le-mul_left}
use native.Mathlib.Numerals.{add-one}
use native.Mathlib.Omega.{arith}
use borrow.Author.Tests.{lt-ltb, le-ltb, ltb-false}
use lib.ListN.{length, get_or, drop, drop_of_length-le}
use lib.Seq.{drop-cons}
use Rattle.std.specs.List.{position_or_len}
use Rattle.std.proofs.lemmas.List.Sums.{prefix_len-le-length}
use Rattle.words.specs.Loop.{pick}
use Rattle.words.proofs.Branch.{pick_yes, pick_no}
use Rattle.bits.specs.Digit.{digit_of}
use Rattle.sheet.specs.Digits.{after_digit, spelled_of, power, width_of, found_of}

-- one byte more
pub drop_more : (text : List ℕ) (i : ℕ) → i < length text → drop i text ≡ get_or text i 0 ∷ drop (i + 1) text
drop_more text i h = rw (add-one) (drop-cons text i 0 h)

module _ (b v : ℕ) (text : List ℕ) (i : ℕ) (inside : i < length text) where
  pub spelled-more : {d : ℕ} → digit_of (get_or text i 0) ≡ Some d → d < b
      → spelled_of b (v * b + d) (drop (i + 1) text) ≡ spelled_of b v (drop i text)
  unfolding spelled_of after_digit
  spelled-more e h = rw (drop_more text i inside, e) (sym (pick_yes _ _ (lt-ltb _ _ h)))

  pub spelled-above : {d : ℕ} → digit_of (get_or text i 0) ≡ Some d → b ≤ d → None ≡ spelled_of b v (drop i text)
  unfolding spelled_of after_digit
  spelled-above e h = rw (drop_more text i inside, e) (sym (pick_no _ _ (le-ltb _ _ h)))

  pub spelled-stopped : digit_of (get_or text i 0) ≡ None → None ≡ spelled_of b v (drop i text)
  unfolding spelled_of after_digit
  spelled-stopped e = rw (drop_more text i inside, e) refl

pub spelled-all : (b v : ℕ) (text : List ℕ) (i : ℕ) → length text ≤ i → Some v ≡ spelled_of b v (drop i text)
unfolding spelled_of
spelled-all b v text i h = rw (drop_of_length-le text h)

found-step : (b : Bool) (n m : ℕ) → n ≡ m → pick b 0 (n + 1) ≡ cond (not b) (1 + m) 0
unfolding pick
found-step true n m e = refl
found-step false n m e = omega (arith, e)

-- where a byte first stands, as the library finds it
pub found-position : (b : ℕ) (text : List ℕ) → found_of b text ≡ position_or_len (λ x. eqb x b) text
unfolding found_of
found-position b [] = refl
found-position b (x ∷ text) = found-step (eqb x b) _ _ (found-position b text)

-- ---- the least power of ten above a number tells how many digits it has

-- where the first of nine tests passes
first_of : (a b c d e f g h i : Bool) → position_or_len (λ t. t) (a ∷ b ∷ c ∷ d ∷ e ∷ f ∷ g ∷ h ∷ i ∷ []) + 1
    ≡ pick a 1 (pick b 2 (pick c 3 (pick d 4 (pick e 5 (pick f 6 (pick g 7 (pick h 8 (pick i 9 10))))))))
unfolding pick
first_of true b c d e f g h i = refl
first_of false true c d e f g h i = refl
first_of false false true d e f g h i = refl
first_of false false false true e f g h i = refl
first_of false false false false true f g h i = refl
first_of false false false false false true g h i = refl
first_of false false false false false false true h i = refl
first_of false false false false false false false true i = refl
first_of false false false false false false false false true = refl
first_of false false false false false false false false false = refl

abbrev pub longer : List ℕ
longer = 10 ∷ 100 ∷ 1000 ∷ 10000 ∷ 100000 ∷ 1000000 ∷ 10000000 ∷ 100000000 ∷ 1000000000 ∷ []

width-position : (v : ℕ) → position_or_len (λ least. ltb v least) longer + 1 ≡ width_of v
unfolding width_of
width-position v =
    first_of (ltb v 10) (ltb v 100) (ltb v 1000) (ltb v 10000) (ltb v 100000) (ltb v 1000000) (ltb v 10000000)
    (ltb v 100000000) (ltb v 1000000000)

place-or-all : (b : Bool) (p n : ℕ) → (b ≡ false → n ≡ p) → unwrap_or (cond b (Some p) None) n ≡ p
place-or-all true p n h = refl
place-or-all false p n h = h refl

pub width-found : (v : ℕ) → unwrap_or (cond (ltb (position_or_len (λ least. ltb v least) longer) 9)
    (Some (position_or_len (λ least. ltb v least) longer)) None) 9 + 1 ≡ width_of v
width-found v =
    let p : ℕ = position_or_len (λ least. ltb v least) longer in
    ap (λ n. n + 1) (place-or-all (ltb p 9) p 9
    (λ e. omega (arith, ltb-false p 9 e, prefix_len-le-length (λ least. not (ltb v least)) longer)))
    ∙ width-position v

-- ---- sixteen digits fit

power-rises : (i d : ℕ) → power 16 i ≤ power 16 (i + d)
unfolding power
power-rises i zero = let e : i + 0 ≡ i = omega arith in rw e (omega arith)
power-rises i (suc d) = let e : i + suc d ≡ suc (i + d) = omega arith in rw e (omega (arith, power-rises i d))

pub sixteen : power 16 16 ≡ 2 ^ 64
unfolding power
sixteen = refl

pub record Room (v b d i : ℕ) : Type 0 where
  pub next : v * b + d < power 16 (i + 1)
  pub fits : v * b + d < 2 ^ 64

pub room : (v b d i : ℕ) → v < power 16 i → b ≤ 16 → d < b → i < 16 → Room v b d i
unfolding power
room v b d i h hb hd hi =
    let e : i + 1 ≡ suc i = omega arith in
    let m : v * b ≤ v * 16 = mul-le-mul_left v hb in
    let n : v * b + d < power 16 (suc i) = omega arith in
    let k : ℕ = 16 - suc i in
    let s : suc i + k ≡ 16 = omega arith in
    let t : power 16 (suc i) ≤ power 16 16 = rw s at (power-rises (suc i) k) in
    record { next = rw e n; fits = omega (arith, sixteen) }
