-- The root of order m, once over m. A product grows with its factor, so the patterns that `keeps` passes are those up
-- to one of them, and that one is the root:
--     root-kept-proof, root-next-proof    its product doesn't exceed v, and that of the next double does
--     root-only-proof                     a pattern with both properties is the root's, however it was found
use Prim.Native.Nat.{ℕ, zero, suc, ◌+◌, ◌≤◌, ◌<◌}
use mathlib.Core.Path.{◌≡◌, refl, sym, ap, subst, ◌∙◌}
use mathlib.Core.Bool.{Bool, true, false}
use native.Mathlib.Nat.{le_refl, lt_of_lt_of_le, lt_of_le_of_lt, zero-lt-suc, zero-mul}
use native.Mathlib.Omega.{arith}
use lib.Dec.{T}
use lib.IntN.{pos}
use lib.Ieee.{Float, nan, inf, fin, mul, le, is_nan, of_bits, down}
use lib.Ieee.Bits.{is_true}
use lib.Ieee.Positive.{positive}
use borrow.Author.Tests.{lt-leb, le-leb}
use Rattle.words.specs.Words.{double, ◌⊗◌}
use Rattle.words.specs.Constants.{«0·0»}
use Rattle.words.specs.Loop.{pick}
use Rattle.scalar.specs.Products.{product}
use Rattle.words.specs.Patterns.{infinity_pattern}
use Rattle.scalar.specs.Halving.{halve}
use Rattle.scalar.specs.Root.{keeps, halved_root, root_of_form, root_of}
use Rattle.scalar.specs.Steps.{Ordered}
use Rattle.scalar.proofs.Tests.{negative, is_zero, infinite, never}
use Rattle.scalar.proofs.PatternLaws.{pattern-positive, pattern-mono}
use Rattle.scalar.proofs.ProductLaws.{positive-plain, fin-le, le-trans-plain}
use Rattle.scalar.proofs.ProductLaws.{product-plain, product-mono, product-same}
use Rattle.scalar.proofs.HalvingLaws.{Edge, halve-edge, halve-finds}

-- ---- the ends of the halving

zero-squared : «0·0» ⊗ «0·0» ≡ «0·0»
unfolding mul of_bits
zero-squared = refl

infinity-squared : double infinity_pattern ⊗ double infinity_pattern ≡ double infinity_pattern
unfolding mul of_bits
infinity-squared = refl

zero-least : (v : Float) → T (positive v) → T (le «0·0» v)
unfolding of_bits
zero-least nan p = absurd p
zero-least (inf s) p = absurd p
zero-least (fin true n d) p = absurd p
zero-least (fin false n d) p = fin-le 0 n (pos 0) d (omega (arith, zero-mul (down d)))

infinity-above : (v : Float) → T (positive v) → le (double infinity_pattern) v ≡ false
unfolding of_bits le
infinity-above nan p = refl
infinity-above (inf s) p = absurd p
infinity-above (fin s n d) p = refl

module _ (m : ℕ) (v : Float) (pv : T (positive v)) where
  pub keeps-zero : keeps m v 0 ≡ true
  unfolding keeps
  keeps-zero = ap (λ (x : Float). le x v) (product-same m «0·0» zero-squared) ∙ is_true (le «0·0» v) (zero-least v pv)

  keeps-infinity : keeps m v infinity_pattern ≡ false
  unfolding keeps
  keeps-infinity =
      ap (λ (x : Float). le x v) (product-same m (double infinity_pattern) infinity-squared) ∙ infinity-above v pv

  -- ---- what a pattern passes, the lower ones do

  keeps-above : (c b : ℕ) → 0 < c → c ≤ b → b < infinity_pattern → keeps m v b ≡ true → keeps m v c ≡ true
  unfolding keeps
  keeps-above c b z h g t =
      let x = double c in
      let y = double b in
      let px = pattern-positive c z (lt_of_le_of_lt h g) in
      let py = pattern-positive b (lt_of_lt_of_le z h) g in
      is_true (le (product m x) v)
      (le-trans-plain (product m x) (product m y) v (product-plain m x px) (product-plain m y py) (positive-plain v pv)
      (product-mono m x y px py (pattern-mono c b h g)) (subst T (sym t) tt))

  keeps-mono : (c b : ℕ) → c ≤ b → b < infinity_pattern → keeps m v b ≡ true → keeps m v c ≡ true
  keeps-mono zero b h g t = keeps-zero
  keeps-mono (suc c) b h g t = keeps-above (suc c) b (zero-lt-suc c) h g t

  stops : (b : ℕ) → (b + 1 < infinity_pattern → keeps m v (b + 1) ≡ false) → (c : ℕ) → b < c → c < infinity_pattern
      → (x : Bool) → keeps m v c ≡ x → keeps m v c ≡ false
  stops b f c l u true e = never (sym (keeps-mono (b + 1) c (omega arith) u e) ∙ f (omega arith))
  stops b f c l u false e = e

  -- ---- the root

  root-edge : Edge (keeps m v) infinity_pattern (halve 63 (keeps m v) 0 infinity_pattern)
  root-edge = halve-edge (keeps m v) 63 0 infinity_pattern keeps-zero keeps-infinity (omega arith) (omega arith)

  halved-only : (b : ℕ) → b < infinity_pattern → keeps m v b ≡ true
      → (b + 1 < infinity_pattern → keeps m v (b + 1) ≡ false) → halved_root m v ≡ double b
  unfolding halved_root
  halved-only b g t f =
      ap (λ (n : ℕ). double n)
      (halve-finds (keeps m v) 63 b infinity_pattern 0 infinity_pattern (λ c l. keeps-mono c b l g t)
      (λ c l u. stops b f c l u (keeps m v c) refl) (omega arith) g (le_refl infinity_pattern) (omega arith))

-- ---- by the form of v

pub of-low-order : (m : ℕ) (v : Float) → m < 1 → root_of m v ≡ nan
unfolding root_of pick
of-low-order m v h = rw (lt-leb 1 m h)

pub of-high-order : (m : ℕ) (v : Float) → 17 < m → root_of m v ≡ nan
unfolding root_of pick
of-high-order m v h = rw (lt-leb m 17 h, le-leb 1 m (omega arith))

module _ (m : ℕ) (v : Float) (l : 1 ≤ m) (h : m ≤ 17) where
  of-form : root_of m v ≡ root_of_form m v
  unfolding root_of pick
  of-form = rw (le-leb 1 m l, le-leb m 17 h)

  pub of_nan : is_nan v ≡ true → root_of m v ≡ nan
  unfolding root_of_form is_nan
  of_nan e = of-form ∙ by v e
    where
      by : (x : Float) → is_nan x ≡ true → root_of_form m x ≡ nan
      by nan t = refl
      by (inf s) t = never (sym t)
      by (fin s n d) t = never (sym t)

  pub of_negative : negative v ≡ true → root_of m v ≡ nan
  unfolding root_of_form
  of_negative e = of-form ∙ by v e
    where
      by : (x : Float) → negative x ≡ true → root_of_form m x ≡ nan
      by nan t = refl
      by (inf true) t = refl
      by (inf false) t = never (sym t)
      by (fin s zero d) t = never (sym t)
      by (fin true (suc n) d) t = refl
      by (fin false (suc n) d) t = never (sym t)

  pub of_zero : is_zero v ≡ true → root_of m v ≡ «0·0»
  unfolding root_of_form of_bits
  of_zero e = of-form ∙ by v e
    where
      by : (x : Float) → is_zero x ≡ true → root_of_form m x ≡ «0·0»
      by nan t = never (sym t)
      by (inf s) t = never (sym t)
      by (fin s zero d) t = refl
      by (fin s (suc n) d) t = never (sym t)

  pub of-infinity : infinite v ≡ true → v ≡ root_of m v
  unfolding root_of_form
  of-infinity e = by v e ∙ sym of-form
    where
      by : (x : Float) → infinite x ≡ true → x ≡ root_of_form m x
      by nan t = never (sym t)
      by (inf true) t = never (sym t)
      by (inf false) t = refl
      by (fin s n d) t = never (sym t)

  of_positive : T (positive v) → root_of m v ≡ halved_root m v
  unfolding root_of_form
  of_positive p = of-form ∙ by v p
    where
      by : (x : Float) → T (positive x) → root_of_form m x ≡ halved_root m x
      by nan t = absurd t
      by (inf s) t = absurd t
      by (fin true n d) t = absurd t
      by (fin false zero d) t = absurd t
      by (fin false (suc n) d) t = refl

-- ---- what a user of the root may rest on

-- the pattern of the root of a positive finite v
pub root_pattern : ℕ → Float → ℕ
root_pattern m v = halve 63 (keeps m v) 0 infinity_pattern

module _ (m : ℕ) (v : Float) (o : Ordered m v) where
  pub root-is-proof : root_of m v ≡ double (root_pattern m v)
  unfolding root_pattern halved_root
  root-is-proof = of_positive m v o.low o.high o.above

  pub root-kept-proof : keeps m v (root_pattern m v) ≡ true
  unfolding root_pattern
  root-kept-proof = (root-edge m v o.above).here

  pub root-next-proof : keeps m v (root_pattern m v + 1) ≡ false
  unfolding root_pattern
  root-next-proof = (root-edge m v o.above).next

  pub root-only-proof : (b : ℕ) → b < infinity_pattern → keeps m v b ≡ true
      → (b + 1 < infinity_pattern → keeps m v (b + 1) ≡ false) → double b ≡ root_of m v
  root-only-proof b u t f = sym (of_positive m v o.low o.high o.above ∙ halved-only m v o.above b u t f)
