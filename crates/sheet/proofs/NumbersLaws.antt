-- What the reader of numbers has found at each of its tests is what the definitions say.
use Rattle.std.proofs.Common.{◌≡◌, ℕ, suc, ◌+◌, ◌-◌, ◌≤◌, ◌<◌, Bool, true, false, cond, Option, None, Some, Result, Err}
use Rattle.std.proofs.Common.{List, [], ◌∷◌, ◌++◌, refl, sym, ap, ◌∙◌, eqb, ltb}
use native.Mathlib.Numerals.{add-one}
use native.Mathlib.Omega.{arith}
use borrow.Author.Tests.{lt-ltb, le-ltb, eq-eqb, ltb-true, ltb-false}
use lib.ListN.{length, take, drop, set, length-drop, length-set}
use lib.Seq.{take_all, take-suc-set}
use Rattle.std.specs.List.{position_or_len}
use Rattle.words.proofs.Branch.{yes, no, pick_all}
use Rattle.sheet.specs.Digits.{spelled_of, base_of, width_by, found_of}
use Rattle.sheet.specs.Numbers.{judged_of, number_of, got, wrong, followed, piece_of}
use Rattle.sheet.specs.Numbers.{ends_of, passed, stuck, pursued, numbers_of}
use Rattle.sheet.specs.declared.spelling.Notation.{Notation}
use Rattle.sheet.specs.declared.spelling.Notation.TheVariants.{Decimal, Hexadecimal}
use Rattle.sheet.specs.declared.kind.Kind.{Kind}
use Rattle.sheet.proofs.DigitsLaws.{found-position}

-- ---- a number

pub base-small : (n : Notation) → base_of n ≤ 16
unfolding base_of
base-small Decimal = omega arith
base-small Hexadecimal = omega arith

module _ (k : Kind) (text : List ℕ) where
  pub number-judged : {b : ℕ} {t s x : Option ℕ} → length text ≤ 16 → b ≡ base_of k.notation
      → t ≡ spelled_of b 0 text → t ≡ s → x ≡ judged_of k (length text) s → x ≡ number_of k text
  unfolding number_of
  number-judged h eb et es e =
      no _ _ _ (le-ltb _ _ h)
      (e ∙ ap (judged_of k (length text)) (sym es ∙ et ∙ ap (λ (b : ℕ). spelled_of b 0 text) eb))

pub judged-right : (k : Kind) (n v : ℕ) → n ≡ width_by k.notation v → k.low ≤ v → v ≤ k.high
    → Some v ≡ judged_of k n (Some v)
unfolding judged_of
judged-right k n v h l u = yes _ _ _ (eq-eqb _ _ h) (no _ _ _ (le-ltb _ _ l) (no _ _ _ (le-ltb _ _ u) refl))

-- ---- a number and its mark, at the front of the bytes

place-some : (t : Bool) (p n : ℕ) → cond t (Some p) None ≡ Some n → (t ≡ true) × (n ≡ p)
place-some true p n e = (refl, cc)
place-some false p n e = absurd (let z : ◌≡◌ {A = ℕ} 0 1 = cc in omega arith)

place-none : (t : Bool) (p : ℕ) → cond t (Some p) None ≡ None → t ≡ false
place-none true p e = absurd (let z : ◌≡◌ {A = ℕ} 0 1 = cc in omega arith)
place-none false p e = refl

module _ (b : ℕ) (s : List ℕ) {r : Option ℕ}
    (er : r ≡ cond (ltb (position_or_len (λ x. eqb x b) s) (length s))
    (Some (position_or_len (λ x. eqb x b) s)) None) where
  pub mark-found : {n : ℕ} → r ≡ Some n → (n ≡ found_of b s) × (n < length s)
  mark-found {n} e =
      let t = place-some _ _ n (sym er ∙ e) in
      (t.1 ∙ sym (found-position b s), omega (arith, t.1, ltb-true _ _ t.0))

  pub mark-missing : r ≡ None → length s ≤ found_of b s
  mark-missing e = omega (arith, found-position b s, ltb-false _ _ (place-none _ _ (sym er ∙ e)))

pub rest-is : (s : List ℕ) (at : ℕ) → take (length s - at) (drop at s) ≡ drop at s
rest-is s at = take_all (length s - at) (drop at s) (omega (arith, length-drop at s))

module _ (k : Kind) (s : List ℕ) where
  pub piece-none : length s ≤ found_of k.mark s → wrong ≡ piece_of k s
  unfolding piece_of
  piece-none h = no _ _ _ (le-ltb _ _ h) refl

  module _ {n : ℕ} (found : (n ≡ found_of k.mark s) × (n < length s)) where
    piece-by : {t : Option ℕ} → t ≡ number_of k (take n s) → followed t (drop (n + 1) s) ≡ piece_of k s
    unfolding piece_of
    piece-by {t} et = rw (← found.0) (yes _ _ _ (lt-ltb _ _ found.1) (rw et))

    pub piece-wrong : {t : Option ℕ} → t ≡ number_of k (take n s) → t ≡ None → wrong ≡ piece_of k s
    unfolding followed
    piece-wrong et e = sym (ap (λ t. followed t (drop (n + 1) s)) e) ∙ piece-by et

    pub piece-got : {t : Option ℕ} {v : ℕ} → t ≡ number_of k (take n s) → t ≡ Some v
        → got v (drop (n + 1) s) ≡ piece_of k s
    unfolding followed
    piece-got et e = sym (ap (λ t. followed t (drop (n + 1) s)) e) ∙ piece-by et

pub same-error : {T E : Type 0} {d e : E} → ◌≡◌ {A = Result T E} (Err d) (Err e) → d ≡ e
same-error h = cc

-- ---- number after number: what is left to read, after the numbers in the store, gives what all of it gives

pub ends-few : (mark : ℕ) → ends_of mark ≤ 1
unfolding ends_of
ends-few mark = pick_all (λ b. b ≤ 1) _ 1 0 (λ e. omega arith) (λ e. omega arith)

pub record Left (k : ℕ → Kind) (count lines₀ : ℕ) (s₀ store : List ℕ) (i lines : ℕ) (s : List ℕ) : Type 0 where
  pub long : length store ≡ count
  pub low : i ≤ count
  pub few : lines ≤ lines₀ + i
  pub is : numbers_of k i (count - i) lines (take i store) s ≡ numbers_of k 0 count lines₀ [] s₀

module _ {k : ℕ → Kind} {count lines₀ : ℕ} {s₀ : List ℕ} where
  pub left-begun : {store : List ℕ} → length store ≡ count → Left k count lines₀ s₀ store 0 lines₀ s₀
  left-begun e = record {
    long = e;
    low = omega arith;
    few = omega arith;
    is = let e : count - 0 ≡ count = omega arith in ap (λ (n : ℕ). numbers_of k 0 n lines₀ [] s₀) e;
  }

  module _ {store : List ℕ} {i lines : ℕ} {s : List ℕ} (left : Left k count lines₀ s₀ store i lines s) where
    pub left-done : count ≤ i → passed store lines s ≡ numbers_of k 0 count lines₀ [] s₀
    unfolding numbers_of
    left-done h =
        let e : count - i ≡ 0 = omega arith in
        ap (λ vs. passed vs lines s) (sym (take_all i store (omega (arith, left.long))))
        ∙ sym (ap (λ (n : ℕ). numbers_of k i n lines (take i store) s) e) ∙ left.is

    step_of : i < count → pursued (piece_of (k i) s) lines
        (λ v rest. numbers_of k (i + 1) (count - (i + 1)) (lines + ends_of (k i).mark) (take i store ++ (v ∷ [])) rest)
        ≡ numbers_of k 0 count lines₀ [] s₀
    unfolding numbers_of
    step_of h =
        let e : count - i ≡ suc (count - (i + 1)) = omega arith in
        sym (ap (λ (n : ℕ). numbers_of k i n lines (take i store) s) e) ∙ left.is

    pub left-stuck : i < count → wrong ≡ piece_of (k i) s → stuck lines ≡ numbers_of k 0 count lines₀ [] s₀
    left-stuck h e =
        ap (λ p. pursued p lines
        (λ v rest. numbers_of k (i + 1) (count - (i + 1)) (lines + ends_of (k i).mark) (take i store ++ (v ∷ [])) rest))
        e
        ∙ step_of h

    pub left-more : (v : ℕ) (rest : List ℕ) {more : ℕ} → i < count → got v rest ≡ piece_of (k i) s
        → more ≡ ends_of (k i).mark → Left k count lines₀ s₀ (set store i v) (i + 1) (lines + more) rest
    left-more v rest {more} h e em =
        let l : i < length store = omega (arith, left.long) in
        let t : take (i + 1) (set store i v) ≡ take i store ++ (v ∷ []) = rw add-one (take-suc-set store i v l) in
        record {
          long = length-set store i v ∙ left.long;
          low = omega arith;
          few = omega (arith, left.few, ends-few (k i).mark);
          is =
              rw (
                em,
                t,
              ) (ap (λ p. pursued p lines (λ v rest.
              numbers_of k (i + 1) (count - (i + 1)) (lines + ends_of (k i).mark) (take i store ++ (v ∷ [])) rest))
              e
              ∙ step_of h);
        }
