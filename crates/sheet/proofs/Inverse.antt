-- Writing and reading a number are inverse to each other: a text is read as v exactly where it is what v is written
-- as, and v is of the kind.
use Prim.Native.Nat.{ℕ, zero, suc, ◌+◌, ◌-◌, ◌*◌, ◌/◌, ◌%◌, ◌≤◌, ◌<◌}
use mathlib.Core.Path.{◌≡◌, refl, sym, ap, ◌∙◌}
use mathlib.Core.Bool.{Bool, true, false}
use mathlib.Core.List.{List, [], ◌∷◌, ◌++◌}
use native.Mathlib.Nat.{add-mul, mul_assoc, mul_comm, suc-mul, mul-le-mul_right, div-add-mod'}
use native.Mathlib.Nat.{mod-lt, div-lt_iff_lt-mul, mul-add-div_right}
use native.Mathlib.Nat.{mul-add-mod_self_right, div-eq_of_lt, mod-eq_of_lt}
use native.Mathlib.Numerals.{add-one}
use native.Mathlib.Omega.{arith}
use borrow.Author.Tests.{lt-ltb, le-ltb, le-leb, lt-leb, eq-eqb, ne_eqb, ltb-true, ltb-false, leb-true, eqb-true}
use lib.Dec.{eqb, ltb, leb}
use lib.ListN.{length, get_or, take, drop, length-append}
use lib.Seq.{split_at, take-append_seam, drop-append-add}
use Rattle.words.specs.Loop.{pick}
use Rattle.words.proofs.Branch.{yes, no, pick_yes, pick_no, pick_all}
use Rattle.bits.specs.Digit.{digit_of}
use Rattle.sheet.specs.Digits.{byte_of, power, digits, width_of, after_digit, spelled_of, base_of, width_by, found_of}
use Rattle.sheet.specs.Sheet.{Every}
use Rattle.sheet.specs.Numbers.{judged_of, number_of, got, wrong, followed, piece_of}
use Rattle.sheet.specs.Writes.{spell_of, Of}
use Rattle.std.proofs.Common.{Option, None, Some}
use Rattle.sheet.specs.declared.spelling.Notation.{Notation}
use Rattle.sheet.specs.declared.spelling.Notation.TheVariants.{Decimal, Hexadecimal}
use Rattle.sheet.specs.declared.kind.Kind.{Kind}
use Rattle.sheet.proofs.NumbersLaws.{base-small, number-judged, judged-right}

-- ---- a test whose one side can't have come out

module _ {A : Type 0} {x y z : A} where
  taken : (t : Bool) → (y ≡ z → ⊥) → pick t x y ≡ z → (t ≡ true) × (x ≡ z)
  unfolding pick
  taken true never e = (refl, e)
  taken false never e = absurd (never e)

  passed-by : (t : Bool) → (x ≡ z → ⊥) → pick t x y ≡ z → (t ≡ false) × (y ≡ z)
  unfolding pick
  passed-by true never e = absurd (never e)
  passed-by false never e = (refl, e)

  either : {P : Type 0} (t : Bool) → (t ≡ true → x ≡ z → P) → (t ≡ false → y ≡ z → P) → pick t x y ≡ z → P
  unfolding pick
  either true f g e = f refl e
  either false f g e = g refl e

no_value : {v : ℕ} → None ≡ Some v → ⊥
no_value e = let z : ◌≡◌ {A = ℕ} 0 1 = cc in omega arith

not-got : {v : ℕ} {rest : List ℕ} → wrong ≡ got v rest → ⊥
not-got e = let z : ◌≡◌ {A = ℕ} 0 1 = cc in omega arith

-- ---- a digit

digit-of-byte : (d : ℕ) → d < 16 → digit_of (byte_of d) ≡ Some d
unfolding byte_of digit_of
digit-of-byte d h =
    pick_all (λ x. digit_of x ≡ Some d) (ltb d 10) (48 + d) (87 + d)
    (λ e. let l : d < 10 = ltb-true _ _ e in
    let r : 48 + d - 48 ≡ d = omega arith in
    pick_no _ _ (le-ltb (48 + d) 48 (omega arith)) ∙ pick_yes _ _ (le-leb (48 + d) 57 (omega arith)) ∙ ap Some r)
    (λ e. let l : 10 ≤ d = ltb-false _ _ e in
    let r : 87 + d - 87 ≡ d = omega arith in
    pick_no _ _ (le-ltb (87 + d) 48 (omega arith)) ∙ pick_no _ _ (lt-leb (87 + d) 57 (omega arith))
    ∙ pick_no _ _ (le-ltb (87 + d) 97 (omega arith))
    ∙ pick_yes _ _ (le-leb (87 + d) 102 (omega arith)) ∙ ap Some r)

byte-of-digit : (x d : ℕ) → digit_of x ≡ Some d → x ≡ byte_of d
unfolding byte_of digit_of
byte-of-digit x d e =
    let a = passed-by (ltb x 48) no_value e in
    let l : 48 ≤ x = ltb-false _ _ a.0 in
    either (leb x 57) (λ u h. let z : x ≤ 57 = leb-true _ _ u in let y : x - 48 ≡ d = (let h1 = h in cc) in
    yes _ _ _ (lt-ltb d 10 (omega arith)) (omega arith))
    (λ u h. let b = passed-by (ltb x 97) no_value h in
    let m : 97 ≤ x = ltb-false _ _ b.0 in
    let c = taken (leb x 102) no_value b.1 in
    let n : x ≤ 102 = leb-true _ _ c.0 in
    let y : x - 87 ≡ d = (let h1 = c.1 in cc) in
    no _ _ _ (le-ltb d 10 (omega arith)) (omega arith))
    a.1

byte_high : (d : ℕ) → 48 ≤ byte_of d
unfolding byte_of
byte_high d = pick_all (λ x. 48 ≤ x) (ltb d 10) (48 + d) (87 + d) (λ e. omega arith) (λ e. omega arith)

-- ---- digits

pub power-some : (b k : ℕ) → 0 < b → 0 < power b k
unfolding power
power-some b zero h = omega arith
power-some b (suc k) h = omega (arith, mul-le-mul_right b (power-some b k h))

pub length_digits : (b k v : ℕ) → length (digits b k v) ≡ k
unfolding digits
length_digits b zero v = refl
length_digits b (suc k) v = ap suc (length_digits b k (v % power b k))

pub digits-high : (b k v : ℕ) → Every (λ x. 48 ≤ x) (digits b k v)
unfolding digits
digits-high b zero v = tt
digits-high b (suc k) v = (byte_high (v / power b k), digits-high b k (v % power b k))

module _ (b : ℕ) (some : 0 < b) (few : b ≤ 16) where
  pub spelled-digits : (k v acc : ℕ) → v < power b k → spelled_of b acc (digits b k v) ≡ Some (acc * power b k + v)
  unfolding spelled_of after_digit digits power
  spelled-digits zero v acc h = ap Some (let e : acc ≡ acc * 1 + v = omega arith in e)
  spelled-digits (suc k) v acc h =
      let P : ℕ = power b k in
      let pos : 0 < power b k = power-some b k some in
      let below : v / power b k
      < b = (div-lt_iff_lt-mul pos).1 (let z : v < b * power b k = omega (arith, mul_comm (power b k) b) in z) in
      let d : digit_of (byte_of (v / power b k)) ≡ Some (v / power b k) = digit-of-byte (v / power b k) (omega arith) in
      rw d (pick_yes _ _ (lt-ltb (v / power b k) b below)
      ∙ spelled-digits k (v % power b k) (acc * b + v / power b k) (mod-lt v pos)
      ∙ ap Some (let e : (acc * b + v / power b k) * power b k + v % power b k ≡ acc * (power b k * b) + v = omega (
        arith,
        add-mul (acc * b) (v / power b k) (power b k),
        mul_assoc acc b (power b k),
        ap (λ x. acc * x) (mul_comm b (power b k)),
        div-add-mod' v (power b k),
      ) in
      e))

  pub record Spells (text : List ℕ) (acc v : ℕ) : Type 0 where
    pub value : ℕ
    pub low : value < power b (length text)
    pub is : v ≡ acc * power b (length text) + value
    pub by : text ≡ digits b (length text) value

  -- a digit that was taken, and what followed
  record Taken (t : Option ℕ) (more : ℕ → Option ℕ) (v : ℕ) : Type 0 where
    digit : ℕ
    is : t ≡ Some digit
    below : digit < b
    then : more digit ≡ Some v

  digit-taken : (t : Option ℕ) {more : ℕ → Option ℕ} {v : ℕ} → after_digit b t more ≡ Some v → Taken t more v
  unfolding after_digit
  digit-taken None e = absurd (no_value e)
  digit-taken (Some d) e =
      let t = taken (ltb d b) no_value e in
      record { digit = d; is = refl; below = ltb-true _ _ t.0; then = t.1 }

  spelled-inverse : (text : List ℕ) (acc v : ℕ) → spelled_of b acc text ≡ Some v → Spells text acc v
  unfolding spelled_of digits power
  spelled-inverse [] acc v e =
      let a : acc ≡ v = cc in
      record { value = 0; low = omega arith; is = omega arith; by = refl }
  spelled-inverse (x ∷ text) acc v e =
      let f = digit-taken (digit_of x) e in
      let d : ℕ = f.digit in
      let ih : Spells text (acc * b + f.digit) v = spelled-inverse text (acc * b + f.digit) v f.then in
      let P : ℕ = power b (length text) in
      let l : f.digit < b = f.below in
      let pos : 0 < power b (length text) = power-some b (length text) some in
      let q : (f.digit * power b (length text) + ih.value) / power b (length text) ≡ f.digit =
      mul-add-div_right pos f.digit ih.value
      ∙ (let z : f.digit + ih.value / power b (length text) ≡ f.digit = omega (arith, div-eq_of_lt ih.low) in
      z) in
      let r : (f.digit * power b (length text) + ih.value) % power b (length text) ≡ ih.value =
      mul-add-mod_self_right f.digit (power b (length text)) ih.value ∙ mod-eq_of_lt ih.low in
      record {
        value = f.digit * power b (length text) + ih.value;
        low = omega (
          arith,
          ih.low,
          mul-le-mul_right (power b (length text)) l,
          suc-mul f.digit (power b (length text)),
          mul_comm (power b (length text)) b,
        );
        is = omega (
          arith,
          ih.is,
          add-mul (acc * b) f.digit (power b (length text)),
          mul_assoc acc b (power b (length text)),
          ap (λ y. acc * y)
              (mul_comm b (power b (length text))),
        );
        by = rw (q, r, ← byte-of-digit x f.digit f.is) (ap (λ y. x ∷ y) ih.by);
      }

-- ---- a number of a kind

-- a kind whose values fit their digits, and whose mark is no digit
pub record Fine (k : Kind) : Type 0 where
  pub bound : (v : ℕ) → v ≤ k.high → v < power (base_of k.notation) (width_by k.notation v)
  pub mark : k.mark < 48

base-some : (n : Notation) → 0 < base_of n
unfolding base_of
base-some Decimal = omega arith
base-some Hexadecimal = omega arith

width_few : (v : ℕ) → width_of v ≤ 16
unfolding width_of
width_few v =
    pick_all (λ x. x ≤ 16) _ 1 _ (λ e. omega arith)
    (λ e. pick_all (λ x. x ≤ 16) _ 2 _ (λ e. omega arith)
    (λ e. pick_all (λ x. x ≤ 16) _ 3 _ (λ e. omega arith)
    (λ e. pick_all (λ x. x ≤ 16) _ 4 _ (λ e. omega arith)
    (λ e. pick_all (λ x. x ≤ 16) _ 5 _ (λ e. omega arith)
    (λ e. pick_all (λ x. x ≤ 16) _ 6 _ (λ e. omega arith)
    (λ e. pick_all (λ x. x ≤ 16) _ 7 _ (λ e. omega arith)
    (λ e. pick_all (λ x. x ≤ 16) _ 8 _ (λ e. omega arith)
    (λ e. pick_all (λ x. x ≤ 16) _ 9 10 (λ e. omega arith) (λ e. omega arith)))))))))

pub width-by-few : (n : Notation) (v : ℕ) → width_by n v ≤ 16
unfolding width_by
width-by-few Decimal v = width_few v
width-by-few Hexadecimal v = omega arith

pub width-bound : (v : ℕ) → v ≤ 9999999999 → v < power 10 (width_of v)
unfolding width_of power
width-bound v h =
    pick_all (λ x. v < power 10 x) (ltb v 10) 1 _ (λ e. ltb-true _ _ e)
    (λ e. pick_all (λ x. v < power 10 x) (ltb v 100) 2 _ (λ e. ltb-true _ _ e)
    (λ e. pick_all (λ x. v < power 10 x) (ltb v 1000) 3 _ (λ e. ltb-true _ _ e)
    (λ e. pick_all (λ x. v < power 10 x) (ltb v 10000) 4 _ (λ e. ltb-true _ _ e)
    (λ e. pick_all (λ x. v < power 10 x) (ltb v 100000) 5 _ (λ e. ltb-true _ _ e)
    (λ e. pick_all (λ x. v < power 10 x) (ltb v 1000000) 6 _ (λ e. ltb-true _ _ e)
    (λ e. pick_all (λ x. v < power 10 x) (ltb v 10000000) 7 _ (λ e. ltb-true _ _ e)
    (λ e. pick_all (λ x. v < power 10 x) (ltb v 100000000) 8 _ (λ e. ltb-true _ _ e)
    (λ e. pick_all (λ x. v < power 10 x) (ltb v 1000000000) 9 10 (λ e. ltb-true _ _ e) (λ e. omega arith)))))))))

module _ (k : Kind) where
  number-right : (v : ℕ) → Fine k → Of k v → number_of k (spell_of k v) ≡ Some v
  unfolding spell_of
  number-right v f o =
      let n : length (spell_of k v) ≡ width_by k.notation v =
      length_digits (base_of k.notation) (width_by k.notation v) v in
      let z : 0 * power (base_of k.notation) (width_by k.notation v) + v ≡ v = omega arith in
      let l : length (spell_of k v) ≤ 16 = omega (arith, width-by-few k.notation v) in
      let e : spelled_of (base_of k.notation) 0 (spell_of k v)
      ≡ Some v =
      spelled-digits (base_of k.notation) (base-some k.notation) (base-small k.notation) (width_by k.notation v) v 0
      (f.bound v o.high) ∙ ap Some z in
      sym
      (number-judged k (spell_of k v) l refl refl e (judged-right k (length (spell_of k v)) v n o.low o.high))

  judged-inverse : (text : List ℕ) (v : ℕ) (t : Option ℕ) → spelled_of (base_of k.notation) 0 text ≡ t
      → judged_of k (length text) t ≡ Some v → (text ≡ spell_of k v) × Of k v
  unfolding judged_of spell_of
  judged-inverse text v None es e = absurd (no_value e)
  judged-inverse text v (Some u) es e =
      let a = taken (eqb (length text) (width_by k.notation u)) no_value e in
      let b = passed-by (ltb u k.low) no_value a.1 in
      let c = passed-by (ltb k.high u) no_value b.1 in
      let same : u ≡ v = (let c1 = c.1 in cc) in
      let n : length text ≡ width_by k.notation u = eqb-true _ _ a.0 in
      let sp : Spells (base_of k.notation) (base-some k.notation) (base-small k.notation) text 0 u =
      spelled-inverse (base_of k.notation) (base-some k.notation)
      (base-small k.notation) text 0 u es in
      let w : sp.value ≡ u = omega (arith, sp.is) in (
        rw (← same) (sp.by ∙ (rw (w, n))),
        rw (← same) (record { low = ltb-false _ _ b.0; high = ltb-false _ _ c.0 }),
      )

  pub number-inverse : (text : List ℕ) (v : ℕ) → number_of k text ≡ Some v → (text ≡ spell_of k v) × Of k v
  unfolding number_of
  number-inverse text v e =
      judged-inverse text v (spelled_of (base_of k.notation) 0 text) refl
      (passed-by (ltb 16 (length text)) no_value e).1

-- ---- a number and its mark

pub found-past : (b : ℕ) (xs rest : List ℕ) → b < 48 → Every (λ x. 48 ≤ x) xs
    → found_of b (xs ++ (b ∷ rest)) ≡ length xs
unfolding found_of
found-past b [] rest h p = pick_yes _ _ (eq-eqb b b refl)
found-past b (x ∷ xs) rest h p =
    pick_no _ _ (ne_eqb x b (λ e. let z : ⊥ = omega (arith, p.0) in z))
    ∙ (rw (found-past b xs rest h p.1) (add-one (length xs)))

pub found_at : (b : ℕ) (s : List ℕ) → found_of b s < length s → get_or s (found_of b s) 0 ≡ b
unfolding found_of
found_at b [] = λ h. absurd (let z : ⊥ = omega arith in z)
found_at b (x ∷ s) =
    pick_all (λ n. n < suc (length s) → get_or (x ∷ s) n 0 ≡ b) (eqb x b) 0 (found_of b s + 1) (λ e h. eqb-true _ _ e)
    (λ e h. rw (add-one (found_of b s)) (found_at b s (let z : found_of b s < length s = omega arith in z)))

pub spell_high : (k : Kind) (v : ℕ) → Every (λ x. 48 ≤ x) (spell_of k v)
unfolding spell_of
spell_high k v = digits-high (base_of k.notation) (width_by k.notation v) v

followed-inverse : (t : Option ℕ) {r rest : List ℕ} {v : ℕ} → followed t r ≡ got v rest → (t ≡ Some v) × (r ≡ rest)
unfolding followed
followed-inverse (Some u) e = (cc, cc)
followed-inverse None e = absurd (not-got e)

module _ (k : Kind) where
  pub piece-right : (v : ℕ) (rest : List ℕ) → Fine k → Of k v
      → piece_of k (spell_of k v ++ (k.mark ∷ rest)) ≡ got v rest
  unfolding piece_of followed
  piece-right v rest f o =
      let xs : List ℕ = spell_of k v in
      let n : found_of k.mark (spell_of k v ++ (k.mark ∷ rest))
      ≡ length (spell_of k v) = found-past k.mark (spell_of k v) rest f.mark (spell_high k v) in
      let l : length (spell_of k v)
      < length (spell_of k v ++ (k.mark ∷ rest)) = omega (arith, length-append (spell_of k v) (k.mark ∷ rest)) in
      rw n (pick_yes _ _ (lt-ltb _ _ l)
      ∙ (rw (take-append_seam, drop-append-add (spell_of k v) (k.mark ∷ rest) 1, number-right k v f o)))

  pub piece-inverse : (s rest : List ℕ) (v : ℕ) → piece_of k s ≡ got v rest
      → (s ≡ spell_of k v ++ (k.mark ∷ rest)) × Of k v
  unfolding piece_of
  piece-inverse s rest v e =
      let n : ℕ = found_of k.mark s in
      let t : (ltb (found_of k.mark s) (length s) ≡ true)
      × (followed (number_of k (take (found_of k.mark s) s)) (drop (found_of k.mark s + 1) s) ≡ got v rest) =
      taken (ltb (found_of k.mark s) (length s)) not-got e in
      let l : found_of k.mark s < length s = ltb-true _ _ t.0 in
      let u : (number_of k (take (found_of k.mark s) s) ≡ Some v)
      × (drop (found_of k.mark s + 1) s ≡ rest) = followed-inverse (number_of k (take (found_of k.mark s) s))
      t.1 in
      let w : (take (found_of k.mark s) s ≡ spell_of k v)
      × Of k v = number-inverse k (take (found_of k.mark s) s) v u.0 in
      let r : drop (suc (found_of k.mark s)) s ≡ rest = rw add-one at u.1 in
      (split_at s (found_of k.mark s) 0 l ∙ (rw (w.0, found_at k.mark s l, r)), w.1)
