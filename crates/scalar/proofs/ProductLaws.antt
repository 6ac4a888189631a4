-- Products of doubles that are not negative grow with their factors, once over the number of factors. `plain` doubles
-- are +0, those above zero and +infinity: the products of positive factors stay among them, and are ordered by `le`.
use Prim.Native.Nat.{ℕ, zero, suc, ◌+◌, ◌-◌, ◌*◌, ◌^◌, ◌≤◌, ◌<◌}
use mathlib.Core.Path.{◌≡◌, refl, sym, ap, subst, ◌∙◌}
use mathlib.Core.Bool.{Bool, true, false, not, cond, ◌&&◌, ◌||◌}
use native.Mathlib.Nat.{le_trans, le_of_lt, le_of_eq, mul-le-mul, mul-pos, mul-mul-mul_comm}
use native.Mathlib.Omega.{arith}
use lib.Dec.{T, ltb, eqb, ltb→lt, eqb→eq}
use lib.IntN.{ℤ}
use lib.Ieee.{Float, nan, inf, fin, Format, low, emax, prec, binary64, mul, le, up, down, odd, units, round}
use lib.Ieee.Fits.{down_pos, round_is}
use lib.Ieee.Order.{le_of_values, round_mono}
use lib.Ieee.Positive.{positive, through}
use borrow.Author.Tests.{ne_eqb}
use Rattle.words.specs.Words.{◌⊗◌}
use Rattle.words.specs.Loop.{turns, loop}
use Rattle.scalar.specs.Products.{times_at, product}

abbrev pub plain : Float → Bool
plain nan = false
plain (inf s) = not s
plain (fin s m e) = not s

pub positive-plain : (x : Float) → T (positive x) → T (plain x)
positive-plain nan p = p
positive-plain (inf s) p = absurd p
positive-plain (fin true m e) p = p
positive-plain (fin false m e) p = tt

-- ---- the order of plain doubles is that of fractions

le-cross : (a b : ℕ) → T (ltb a b || (eqb a b && true)) → a ≤ b
le-cross a b t = go (ltb a b) (eqb a b) (ltb→lt a b) (eqb→eq a b) t
  where
    go : (p q : Bool) → (T p → a < b) → (T q → a ≡ b) → T (p || (q && true)) → a ≤ b
    go true q f g u = le_of_lt (f tt)
    go false true f g u = le_of_eq (g tt)
    go false false f g u = absurd u

fin-cross : (m n : ℕ) (e d : ℤ) → T (le (fin false m e) (fin false n d)) → m * up e * down d ≤ n * up d * down e
unfolding le
fin-cross m n e d t = le-cross (m * up e * down d) (n * up d * down e) t

pub fin-le : (m n : ℕ) (e d : ℤ) → m * up e * down d ≤ n * up d * down e → T (le (fin false m e) (fin false n d))
fin-le m n e d h =
    le_of_values (fin false m e) (fin false n d) (m * up e) (down e) (n * up d)
    (down d) (down_pos e) (down_pos d) (refl, refl) (refl, refl) h

le-inf : (x : Float) → T (plain x) → T (le x (inf false))
unfolding le
le-inf nan p = absurd p
le-inf (inf true) p = absurd p
le-inf (inf false) p = tt
le-inf (fin true m e) p = absurd p
le-inf (fin false m e) p = tt

inf-not-le : (m : ℕ) (e : ℤ) → T (le (inf false) (fin false m e)) → ⊥
unfolding le
inf-not-le m e t = t

pub le-trans-plain : (x y z : Float) → T (plain x) → T (plain y) → T (plain z) → T (le x y) → T (le y z) → T (le x z)
le-trans-plain nan y z p q r h k = absurd p
le-trans-plain (inf true) y z p q r h k = absurd p
le-trans-plain (fin true m e) y z p q r h k = absurd p
le-trans-plain (inf false) nan z p q r h k = absurd q
le-trans-plain (inf false) (inf true) z p q r h k = absurd q
le-trans-plain (inf false) (inf false) z p q r h k = k
le-trans-plain (inf false) (fin true n d) z p q r h k = absurd q
le-trans-plain (inf false) (fin false n d) z p q r h k = absurd (inf-not-le n d h)
le-trans-plain (fin false m e) y nan p q r h k = absurd r
le-trans-plain (fin false m e) y (inf true) p q r h k = absurd r
le-trans-plain (fin false m e) y (inf false) p q r h k = le-inf (fin false m e) tt
le-trans-plain (fin false m e) y (fin true o g) p q r h k = absurd r
le-trans-plain (fin false m e) nan (fin false o g) p q r h k = absurd q
le-trans-plain (fin false m e) (inf true) (fin false o g) p q r h k = absurd q
le-trans-plain (fin false m e) (inf false) (fin false o g) p q r h k = absurd (inf-not-le o g k)
le-trans-plain (fin false m e) (fin true n d) (fin false o g) p q r h k = absurd q
le-trans-plain (fin false m e) (fin false n d) (fin false o g) p q r h k =
    fin-le m o e g (through (m * up e) (n * up d) (o * up g) (down e) (down d) (down g) (down_pos d)
    (fin-cross m n e d h) (fin-cross n o d g k))

-- ---- a product of a plain double and a positive one

odd-plain : (d q k l : ℕ) → T (plain (odd d false q k l))
unfolding odd
odd-plain d zero k l = tt
odd-plain d (suc q) k l = tt

cond-plain : (t : Bool) (x y : Float) → T (plain x) → T (plain y) → T (plain (cond t x y))
cond-plain true x y p q = p
cond-plain false x y p q = q

units-plain : (f : Format) (q k : ℕ) → T (plain (units f false q k))
unfolding units
units-plain f q k =
    cond-plain (ltb (q * 2 ^ k) (2 ^ (low f + suc (emax f)))) (odd (suc (prec f)) false q k (low f)) (inf false)
    (odd-plain (suc (prec f)) q k (low f)) tt

round-plain : (f : Format) (a b : ℕ) → T (plain (round f false a b))
round-plain f a b = subst (λ (z : Float). T (plain z)) (sym (round_is f false a b)) (units-plain f _ _)

inf-times : (x : Float) → T (positive x) → inf false ⊗ x ≡ inf false
unfolding mul
inf-times nan p = absurd p
inf-times (inf s) p = absurd p
inf-times (fin true n d) p = absurd p
inf-times (fin false n d) p = let h : 0 < n = ltb→lt 0 n p in rw (ne_eqb n 0 (omega arith))

mul-plain : (a x : Float) → T (plain a) → T (positive x) → T (plain (a ⊗ x))
unfolding mul
mul-plain nan x p q = absurd p
mul-plain (inf true) x p q = absurd p
mul-plain (inf false) x p q = subst (λ (y : Float). T (plain y)) (sym (inf-times x q)) tt
mul-plain (fin true m e) x p q = absurd p
mul-plain (fin false m e) nan p q = absurd q
mul-plain (fin false m e) (inf s) p q = absurd q
mul-plain (fin false m e) (fin true n d) p q = absurd q
mul-plain (fin false m e) (fin false n d) p q = round-plain binary64 (m * up e * (n * up d)) (down e * down d)

fin-mul-mono : (m m' n n' : ℕ) (e e' d d' : ℤ) → T (le (fin false m e) (fin false m' e'))
    → T (le (fin false n d) (fin false n' d'))
    → T (le (fin false m e ⊗ fin false n d) (fin false m' e' ⊗ fin false n' d'))
unfolding mul
fin-mul-mono m m' n n' e e' d d' h k =
    round_mono binary64 (m * up e * (n * up d)) (down e * down d) (m' * up e' * (n' * up d')) (down e' * down d')
    (mul-pos (down_pos e) (down_pos d)) (mul-pos (down_pos e') (down_pos d'))
    (le_trans (le_of_eq (mul-mul-mul_comm (m * up e) (n * up d) (down e') (down d')))
    (le_trans (mul-le-mul (fin-cross m m' e e' h) (fin-cross n n' d d' k))
    (le_of_eq (mul-mul-mul_comm (m' * up e') (down e) (n' * up d') (down d)))))

mul_mono : (a a' x x' : Float) → T (plain a) → T (plain a') → T (positive x) → T (positive x') → T (le a a')
    → T (le x x') → T (le (a ⊗ x) (a' ⊗ x'))
mul_mono nan a' x x' p p' q q' h k = absurd p
mul_mono (inf true) a' x x' p p' q q' h k = absurd p
mul_mono (fin true m e) a' x x' p p' q q' h k = absurd p
mul_mono (inf false) nan x x' p p' q q' h k = absurd p'
mul_mono (inf false) (inf true) x x' p p' q q' h k = absurd p'
mul_mono (inf false) (inf false) x x' p p' q q' h k = rw (inf-times x q, inf-times x' q') h
mul_mono (inf false) (fin true n d) x x' p p' q q' h k = absurd p'
mul_mono (inf false) (fin false n d) x x' p p' q q' h k = absurd (inf-not-le n d h)
mul_mono (fin false m e) nan x x' p p' q q' h k = absurd p'
mul_mono (fin false m e) (inf true) x x' p p' q q' h k = absurd p'
mul_mono (fin false m e) (inf false) x x' p p' q q' h k =
    rw (inf-times x' q') (le-inf (fin false m e ⊗ x) (mul-plain (fin false m e) x tt q))
mul_mono (fin false m e) (fin true n d) x x' p p' q q' h k = absurd p'
mul_mono (fin false m e) (fin false m' e') x x' p p' q q' h k = at x x' q q' k
  where
    at : (y y' : Float) → T (positive y) → T (positive y') → T (le y y')
        → T (le (fin false m e ⊗ y) (fin false m' e' ⊗ y'))
    at nan y' r r' l = absurd r
    at (inf s) y' r r' l = absurd r
    at (fin true n d) y' r r' l = absurd r
    at (fin false n d) nan r r' l = absurd r'
    at (fin false n d) (inf s) r r' l = absurd r'
    at (fin false n d) (fin true n' d') r r' l = absurd r'
    at (fin false n d) (fin false n' d') r r' l = fin-mul-mono m m' n n' e e' d d' h l

-- ---- products of m factors

turns-plain : (k low : ℕ) (a x : Float) → T (plain a) → T (positive x) → T (plain (turns (times_at x) low k a))
unfolding times_at
turns-plain zero low a x p q = p
turns-plain (suc k) low a x p q = mul-plain (turns (times_at x) low k a) x (turns-plain k low a x p q) q

turns-mono : (k low : ℕ) (x y : Float) → T (positive x) → T (positive y) → T (le x y)
    → T (le (turns (times_at x) low k x) (turns (times_at y) low k y))
unfolding times_at
turns-mono zero low x y p q h = h
turns-mono (suc k) low x y p q h =
    mul_mono (turns (times_at x) low k x) (turns (times_at y) low k y) x y
    (turns-plain k low x x (positive-plain x p) p) (turns-plain k low y y (positive-plain y q) q) p q
    (turns-mono k low x y p q h) h

pub product-plain : (m : ℕ) (x : Float) → T (positive x) → T (plain (product m x))
unfolding product loop
product-plain m x p = turns-plain (m - 1) 1 x x (positive-plain x p) p

pub product-mono : (m : ℕ) (x y : Float) → T (positive x) → T (positive y) → T (le x y)
    → T (le (product m x) (product m y))
unfolding product loop
product-mono m x y p q h = turns-mono (m - 1) 1 x y p q h

-- a double that is its own square is each of its products: +0 and infinity are
turns_same : (k low : ℕ) (a : Float) → a ⊗ a ≡ a → turns (times_at a) low k a ≡ a
unfolding times_at
turns_same zero low a e = refl
turns_same (suc k) low a e = ap (λ (p : Float). p ⊗ a) (turns_same k low a e) ∙ e

pub product-same : (m : ℕ) (a : Float) → a ⊗ a ≡ a → product m a ≡ a
unfolding product loop
product-same m a e = turns_same (m - 1) 1 a e
