-- The square root exists, is one, and is what `sqrt_of` computes:
--     sqrt-is-proof        for every double x, `sqrt_of x` is a square root of x in the sense of specs/SquareRoot.antt
--     sqrt-exists-proof    so there is one
--     sqrt-only-proof      and there is no other
-- The contract of `sqrt` says both: that the code returns `sqrt_of x`, and that this is a square root of x.
use Prim.Native.Nat.{ℕ, zero, suc, ◌+◌, ◌-◌, ◌*◌, ◌%◌, ◌≤◌, ◌<◌}
use mathlib.Core.Path.{◌≡◌, refl, sym, ap, subst, ◌∙◌}
use mathlib.Core.Logic.{◌⊎◌, inl, inr, ⊎_elim}
use mathlib.Core.Bool.{Bool, true, false, ◌&&◌, ◌||◌}
use native.Mathlib.Nat.{le_trans, le_of_lt, le_of_eq, lt_of_le_of_lt}
use native.Mathlib.Nat.{mul-pos, mul-le-mul_left, mul-le-mul_right, zero-lt-suc}
use native.Mathlib.Decide.{dec_lt}
use native.Mathlib.Omega.{arith}
use lib.Dec.{T, ltb, eqb, lit<, lt→ltb}
use lib.Ieee.{Float, nan, inf, fin, binary64, fits, is_nan, to_bits}
use lib.Ieee.Positive.{positive}
use borrow.Author.Tests.{lt-ltb, le-ltb, eq-eqb, ne_eqb, ltb-true, ltb-false, eqb-true, eqb-false}
use Rattle.words.specs.Words.{double}
use Rattle.words.specs.Loop.{pick}
use Rattle.words.specs.Patterns.{units, units_in_one, infinity_pattern}
use Rattle.scalar.specs.SquareRoot.{square_of, Nearest, IsSquareRoot, of_nan, of-infinity}
use Rattle.scalar.specs.SquareRoot.{of-minus-infinity, of_zero, of_negative, of_positive}
use Rattle.scalar.specs.SquareRootComputed.{border, reaches, nearest_root, sqrt_of}
use Rattle.scalar.proofs.Tests.{never, negative, is_zero, infinite}
use Rattle.scalar.proofs.Squares.{square-mono, square-strict}
use Rattle.scalar.proofs.PatternLaws.{units_mono, units-strict, units-some, pattern-above, pattern-under}
use Rattle.scalar.proofs.HalvingLaws.{Edge, halve-edge}

-- ---- where the test of the halving passes and at the next pattern fails, the pattern is nearest

passed : (p q r : Bool) → p || (q && r) ≡ true → (p ≡ true) ⊎ ((q ≡ true) × (r ≡ true))
passed true q r h = inl refl
passed false true r h = inr (refl, h)
passed false false r h = never (sym h)

failed : (p q r : Bool) → p || (q && r) ≡ false → (p ≡ false) × (q ≡ true → r ≡ false)
failed true q r h = never h
failed false true r h = (refl, λ e. h)
failed false false r h = (refl, λ e. never (sym e))

module _ (n b : ℕ) where
  -- against the double below b, and the one above it
  from-here : reaches n b ≡ true → (border b * border b ≤ 4 * n) × (border b * border b ≡ 4 * n → b % 2 ≡ 0)
  unfolding reaches
  from-here h =
      ⊎_elim
      (λ e. let l : border b * border b < 4 * n = ltb-true _ _ e in (le_of_lt l, λ k. absurd (omega arith)))
      (λ e. (le_of_eq (eqb-true _ _ e.0), λ k. eqb-true _ _ e.1))
      (passed (ltb (border b * border b) (4 * n)) (eqb (border b * border b) (4 * n)) (eqb (b % 2) 0) h)

  from_next : reaches n (b + 1) ≡ false
      → (4 * n ≤ border (b + 1) * border (b + 1)) × (4 * n ≡ border (b + 1) * border (b + 1) → b % 2 ≡ 0)
  unfolding reaches
  from_next h =
      let f = failed (ltb (border (b + 1) * border (b + 1)) (4 * n))
      (eqb (border (b + 1) * border (b + 1)) (4 * n)) (eqb ((b + 1) % 2) 0) h in (
        ltb-false _ _ f.0,
        λ k. let r : (b + 1) % 2 ≡ 0 → ⊥ = eqb-false _ _ (f.1 (eq-eqb _ _ (sym k))) in omega (arith, r),
      )

  -- the middle with a double further off lies further off
  border-over : (c : ℕ) → c < b → units b + units c ≤ border b
  unfolding border
  border-over c h = omega (arith, units_mono c (b - 1) (omega arith))

  border-under : (c : ℕ) → b < c → border (b + 1) ≤ units b + units c
  unfolding border
  border-under c h =
      let e : b + 1 - 1 ≡ b = omega arith in
      rw e (omega (arith, units_mono (b + 1) c (omega arith)))

  edge-nearest : Edge (reaches n) infinity_pattern b → Nearest n b
  edge-nearest e =
      record {
        under = λ c h u. le_trans (from_next e.next).0 (square-mono (border-under c h));
        over = λ c h. le_trans (square-mono (border-over c h)) (from-here e.here).0;
        even = λ c d u t. on-middle c t (dec_lt b c) d;
      }
    where
      on-middle : (c : ℕ) → 4 * n ≡ (units b + units c) * (units b + units c) → Dec (b < c) → (b ≡ c → ⊥) → b % 2 ≡ 0
      on-middle c t (yes h) d =
          (from_next e.next).1 (omega (arith, (from_next e.next).0, square-mono (border-under c h)))
      on-middle c t (no h) d =
          let l : c < b = omega (arith, d) in
          (from-here e.here).1 (omega (arith, (from-here e.here).0, square-mono (border-over c l)))

-- ---- no two patterns are nearest: both would be on the middle between them and even, and the
-- pattern between them nearer

not-both : (n a b : ℕ) → a < infinity_pattern → b < infinity_pattern → Nearest n a → Nearest n b → a < b → ⊥
not-both n a b ua ub p q h =
    let above : 4 * n ≤ (units a + units b) * (units a + units b) = p.under b h ub in
    let under : (units b + units a) * (units b + units a) ≤ 4 * n = q.over a h in
    let swap : units b + units a ≡ units a + units b = omega arith in
    let mid : 4 * n ≡ (units a + units b) * (units a + units b) = omega (arith, ap (λ (x : ℕ). x * x) swap) in
    let even-a : a % 2 ≡ 0 = p.even b (λ e. omega arith) ub mid in
    let even-b : b % 2 ≡ 0 = q.even a (λ e. omega arith) ua (mid ∙ ap (λ (x : ℕ). x * x) (sym swap)) in
    let near : 4 * n
    ≤ (units a + units (a + 1)) * (units a + units (a + 1)) = p.under (a + 1) (omega arith) (omega arith) in
    let less : units a + units (a + 1) < units a + units b = omega (arith, units-strict (a + 1) b (omega arith)) in
    omega (arith, square-strict less)

pub nearest-only : (n a b : ℕ) → a < infinity_pattern → b < infinity_pattern → Nearest n a → Nearest n b → a ≡ b
nearest-only n a b ua ub p q = by (dec_lt a b) (dec_lt b a)
  where
    by : Dec (a < b) → Dec (b < a) → a ≡ b
    by (yes h) k = absurd (not-both n a b ua ub p q h)
    by (no h) (yes k) = absurd (not-both n b a ub ua q p k)
    by (no h) (no k) = omega arith

-- ---- the halving has an edge to find

at_zero : (n : ℕ) → 0 < n → reaches n 0 ≡ true
unfolding reaches border units pick
at_zero n h = rw (lt-ltb 0 (4 * n) (omega arith))

at-infinity : (n : ℕ) → 4 * n < border infinity_pattern * border infinity_pattern → reaches n infinity_pattern ≡ false
unfolding reaches
at-infinity n h =
    rw (
      le-ltb (border infinity_pattern * border infinity_pattern) (4 * n) (le_of_lt h),
      ne_eqb (border infinity_pattern * border infinity_pattern) (4 * n) (omega arith),
    )

infinity-far : 4 * (units infinity_pattern * units_in_one) < border infinity_pattern * border infinity_pattern
unfolding units border units_in_one pick
infinity-far = lit< tt

one-some : 0 < units_in_one
unfolding units_in_one
one-some = lit< tt

root-edge : (x : Float) → T (fits binary64 x) → T (positive x)
    → Edge (reaches (square_of x)) infinity_pattern (nearest_root (square_of x))
unfolding square_of nearest_root
root-edge x f p =
    let b = to_bits binary64 x in
    let n = units b * units_in_one in
    let far : 4 * n < border infinity_pattern * border infinity_pattern =
    lt_of_le_of_lt
    (mul-le-mul_left 4 (mul-le-mul_right units_in_one (units_mono b infinity_pattern (le_of_lt (pattern-under x f p)))))
    infinity-far in
    halve-edge (reaches n) 63 0 infinity_pattern (at_zero n (mul-pos (units-some b (pattern-above x f p)) one-some))
    (at-infinity n far) (omega arith) (omega arith)

-- ---- by the form of x

pub sqrt-of-nan : (x : Float) → is_nan x ≡ true → x ≡ sqrt_of x
unfolding sqrt_of is_nan
sqrt-of-nan nan t = refl
sqrt-of-nan (inf s) t = never (sym t)
sqrt-of-nan (fin s m e) t = never (sym t)

pub sqrt-of-negative : (x : Float) → negative x ≡ true → sqrt_of x ≡ nan
unfolding sqrt_of
sqrt-of-negative nan t = refl
sqrt-of-negative (inf true) t = refl
sqrt-of-negative (inf false) t = never (sym t)
sqrt-of-negative (fin s zero e) t = never (sym t)
sqrt-of-negative (fin true (suc m) e) t = refl
sqrt-of-negative (fin false (suc m) e) t = never (sym t)

pub sqrt-of-zero : (x : Float) → is_zero x ≡ true → x ≡ sqrt_of x
unfolding sqrt_of
sqrt-of-zero nan t = never (sym t)
sqrt-of-zero (inf s) t = never (sym t)
sqrt-of-zero (fin s zero e) t = refl
sqrt-of-zero (fin s (suc m) e) t = never (sym t)

pub sqrt-of-infinity : (x : Float) → infinite x ≡ true → x ≡ sqrt_of x
unfolding sqrt_of
sqrt-of-infinity nan t = never (sym t)
sqrt-of-infinity (inf true) t = never (sym t)
sqrt-of-infinity (inf false) t = refl
sqrt-of-infinity (fin s m e) t = never (sym t)

pub sqrt-of-positive : (x : Float) → T (positive x)
    → sqrt_of x ≡ double (nearest_root (units (to_bits binary64 x) * units_in_one))
unfolding sqrt_of square_of
sqrt-of-positive nan p = absurd p
sqrt-of-positive (inf s) p = absurd p
sqrt-of-positive (fin true m e) p = absurd p
sqrt-of-positive (fin false zero e) p = absurd p
sqrt-of-positive (fin false (suc m) e) p = refl

-- ---- what is promised

pub sqrt-is-proof : (x : Float) → T (fits binary64 x) → IsSquareRoot x (sqrt_of x)
unfolding sqrt_of
sqrt-is-proof nan f = of_nan
sqrt-is-proof (inf true) f = of-minus-infinity
sqrt-is-proof (inf false) f = of-infinity
sqrt-is-proof (fin s zero e) f = of_zero s e
sqrt-is-proof (fin true (suc m) e) f = of_negative m e
sqrt-is-proof (fin false (suc m) e) f =
    let x = fin false (suc m) e in
    let d = root-edge x f (lt→ltb 0 (suc m) (zero-lt-suc m)) in
    of_positive m e (nearest_root (square_of x)) d.under (edge-nearest (square_of x) (nearest_root (square_of x)) d)

-- what equals `sqrt_of x` is one: the contract of `sqrt`, from its equation
pub sqrt-both : (x : Float) → T (fits binary64 x) → {r : Float} → r ≡ sqrt_of x → (r ≡ sqrt_of x) × IsSquareRoot x r
sqrt-both x f e = (e, subst (λ (r : Float). IsSquareRoot x r) (sym e) (sqrt-is-proof x f))

pub sqrt-exists-proof : (x : Float) → T (fits binary64 x) → (r : Float) × IsSquareRoot x r
sqrt-exists-proof x f = (sqrt_of x, sqrt-is-proof x f)

pub sqrt-only-proof : (x r r' : Float) → IsSquareRoot x r → IsSquareRoot x r' → r ≡ r'
sqrt-only-proof x r r' of_nan of_nan = refl
sqrt-only-proof x r r' of-infinity of-infinity = refl
sqrt-only-proof x r r' of-minus-infinity of-minus-infinity = refl
sqrt-only-proof x r r' (of_zero s e) (of_zero t d) = refl
sqrt-only-proof x r r' (of_negative m e) (of_negative n d) = refl
sqrt-only-proof x r r' (of_positive m e b u p) (of_positive n d c w q) =
    ap (λ (k : ℕ). double k) (nearest-only (square_of (fin false (suc m) e)) b c u w p q)
