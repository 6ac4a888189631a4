-- Lines of texts: the first ones, those behind them, how many there are.
use Rattle.std.proofs.Common.{◌≡◌, ℕ, zero, suc, ◌+◌, ◌<◌, ◌≤◌, Bool, true, false, eqb, List, [], ◌∷◌, ◌++◌, length}
use Rattle.std.proofs.Common.{take, sym, refl, ap, ◌∙◌, arith}
use Rattle.words.specs.Loop.{pick}
use Rattle.words.proofs.Branch.{pick_yes, pick_no}
use Rattle.night_chain.specs.Texts.{first_lines}

-- how many lines end in a text
unfoldable pub ended : List ℕ → ℕ
ended [] = 0
ended (b ∷ s) = pick (eqb b 10) 1 0 + ended s

-- what stands behind the first n lines
unfoldable pub behind : List ℕ → ℕ → List ℕ
behind [] n = []
behind (b ∷ s) zero = b ∷ s
behind (b ∷ s) (suc n) = behind s (pick (eqb b 10) n (suc n))

pub first-behind : (s : List ℕ) (n : ℕ) → first_lines s n ++ behind s n ≡ s
unfolding first_lines behind
first-behind [] n = refl
first-behind (b ∷ s) zero = refl
first-behind (b ∷ s) (suc n) = ap (λ l. b ∷ l) (first-behind s (pick (eqb b 10) n (suc n)))

first-none : (s : List ℕ) → first_lines s 0 ≡ []
unfolding first_lines
first-none [] = refl
first-none (b ∷ s) = refl

behind-none : (s : List ℕ) → behind s 0 ≡ s
unfolding behind
behind-none [] = refl
behind-none (b ∷ s) = refl

pub ended-append : (s t : List ℕ) → ended (s ++ t) ≡ ended s + ended t
unfolding ended
ended-append [] t = let z : ended t ≡ 0 + ended t = omega arith in z
ended-append (b ∷ s) t = omega (arith, ended-append s t)

one_less : (e : Bool) (n l : ℕ) → suc n ≤ pick e 1 0 + l → pick e n (suc n) ≤ l
unfolding pick
one_less true n l h = omega arith
one_less false n l h = omega arith

one-back : (e : Bool) (n : ℕ) → pick e 1 0 + pick e n (suc n) ≡ suc n
unfolding pick
one-back true n = let z : 1 + n ≡ suc n = omega arith in z
one-back false n = let z : 0 + suc n ≡ suc n = omega arith in z

-- the first lines of a text that has as many are those of a longer one
pub first-append : (s t : List ℕ) (n : ℕ) → n ≤ ended s → first_lines (s ++ t) n ≡ first_lines s n
unfolding first_lines ended
first-append [] t zero h = first-none t
first-append [] t (suc n) h = absurd (let z : ⊥ = omega arith in z)
first-append (b ∷ s) t zero h = refl
first-append (b ∷ s) t (suc n) h =
    ap (λ l. b ∷ l) (first-append s t (pick (eqb b 10) n (suc n)) (one_less (eqb b 10) n (ended s) h))

pub behind-append : (s t : List ℕ) (n : ℕ) → n ≤ ended s → behind (s ++ t) n ≡ behind s n ++ t
unfolding behind ended
behind-append [] t zero h = behind-none t
behind-append [] t (suc n) h = absurd (let z : ⊥ = omega arith in z)
behind-append (b ∷ s) t zero h = refl
behind-append (b ∷ s) t (suc n) h =
    behind-append s t (pick (eqb b 10) n (suc n)) (one_less (eqb b 10) n (ended s) h)

pub ended-first : (s : List ℕ) (n : ℕ) → n ≤ ended s → ended (first_lines s n) ≡ n
unfolding first_lines ended
ended-first [] zero h = refl
ended-first [] (suc n) h = absurd (let z : ⊥ = omega arith in z)
ended-first (b ∷ s) zero h = refl
ended-first (b ∷ s) (suc n) h =
    ap (λ k. pick (eqb b 10) 1 0 + k)
    (ended-first s (pick (eqb b 10) n (suc n)) (one_less (eqb b 10) n (ended s) h))
    ∙ one-back (eqb b 10) n

-- fewer lines of the first ones
pub first-fewer : (i n : ℕ) (s : List ℕ) → i ≤ n → n ≤ ended s → first_lines (first_lines s n) i ≡ first_lines s i
first-fewer i n s l h =
    sym (first-append (first_lines s n) (behind s n) i (omega (arith, ended-first s n h)))
    ∙ ap (λ t. first_lines t i) (first-behind s n)

-- ---- a text whose last byte is LF has more lines than each part before it

unfoldable pub ends_line : List ℕ → Bool
ends_line [] = false
ends_line (b ∷ []) = eqb b 10
ends_line (b ∷ c ∷ s) = ends_line (c ∷ s)

pub early-lines : (s : List ℕ) (i : ℕ) → i < length s → ends_line s ≡ true → suc (ended (take i s)) ≤ ended s
unfolding ended ends_line
early-lines [] i l e = absurd (let z : ⊥ = omega arith in z)
early-lines (b ∷ []) zero l e = omega (arith, pick_yes {A = ℕ} {b = eqb b 10} 1 0 e)
early-lines (b ∷ []) (suc i) l e = absurd (let z : ⊥ = omega arith in z)
early-lines (b ∷ c ∷ s) zero l e = omega (arith, early-lines (c ∷ s) zero (omega arith) e)
early-lines (b ∷ c ∷ s) (suc i) l e = omega (arith, early-lines (c ∷ s) i (omega arith) e)

-- ---- a text without lines in front

plain-head : (e : Bool) (l : ℕ) → pick e 1 0 + l ≡ 0 → (e ≡ false) × (l ≡ 0)
unfolding pick
plain-head true l h = absurd (let z : ⊥ = omega arith in z)
plain-head false l h = (refl, let z : l ≡ 0 = omega arith in z)

pub behind-plain : (p s : List ℕ) (n : ℕ) → ended p ≡ 0 → behind (p ++ s) (suc n) ≡ behind s (suc n)
unfolding behind ended
behind-plain [] s n h = refl
behind-plain (b ∷ p) s n h =
    let k = plain-head (eqb b 10) (ended p) h in
    ap (behind (p ++ s)) (pick_no {A = ℕ} n (suc n) k.0) ∙ behind-plain p s n k.1

-- ---- two ways to cut a text

pub data Meet (a b c d : List ℕ) : Type 0 where
  longer : (e : List ℕ) → c ≡ a ++ e → b ≡ e ++ d → Meet a b c d
  shorter : (e : List ℕ) → a ≡ c ++ e → Meet a b c d

pub first_byte : (x y : ℕ) (s t : List ℕ) → x ∷ s ≡ y ∷ t → x ≡ y
first_byte x y s t e = cc

tail-is : (x y : ℕ) (s t : List ℕ) → x ∷ s ≡ y ∷ t → s ≡ t
tail-is x y s t e = cc

further : (x y : ℕ) (a b c d : List ℕ) → x ≡ y → Meet a b c d → Meet (x ∷ a) b (y ∷ c) d
further x y a b c d h (longer e p q) = longer e (cc) q
further x y a b c d h (shorter e p) = shorter e (cc)

pub meet : (a b c d : List ℕ) → a ++ b ≡ c ++ d → Meet a b c d
meet [] b c d e = longer c refl e
meet (x ∷ a) b [] d e = shorter (x ∷ a) refl
meet (x ∷ a) b (y ∷ c) d e =
    further x y a b c d (first_byte x y (a ++ b) (c ++ d) e) (meet a b c d (tail-is x y (a ++ b) (c ++ d) e))
