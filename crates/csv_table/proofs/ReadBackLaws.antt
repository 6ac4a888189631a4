-- The text of a finite double reads back to that very number, so two that share a text share their bits.
use Prim.Native.Nat.{ℕ, ◌<◌}
use mathlib.Core.Path.{◌≡◌, refl, sym, ap, subst, ◌∙◌}
use mathlib.Core.Bool.{Bool, true, false}
use mathlib.Core.List.{List, [], ◌∷◌, ◌++◌}
use native.Mathlib.Nat.{mod-lt}
use native.Mathlib.Omega.{arith}
use borrow.Author.Tests.{ne_eqb}
use lib.Dec.{T, eqb}
use lib.Ieee.{Float, binary64, fits, ne, to_bits}
use lib.Ieee.Compare.{differs_from_itself}
use lib.Ieee.Scale.{finite}
use Rattle.words.specs.Loop.{pick}
use Rattle.words.proofs.Branch.{pick_no, pick_all}
use Rattle.forecast_text.specs.Printed.{text}
use Rattle.csv_table.specs.NumberText.{exponent_of, fraction_of, fraction_text, exponent_text}
use Rattle.csv_table.specs.NumberText.{magnitude_text, sign_text, pattern_text, number_text}
use Rattle.csv_table.specs.ReadBack.{number, unsigned_of, read_of, ReadsBack}
use Rattle.csv_table.proofs.Units.{hidden, units_of, units-same, fields-same, negative_of}
use Rattle.csv_table.proofs.Units.{exponent-low, bits-low, value}
use Rattle.csv_table.proofs.ReadingLaws.{magnitude-read}

-- a text that begins with no minus has no sign
abbrev Unsigned : List ℕ → Type 0
Unsigned t = read_of t ≡ unsigned_of false t

no_minus : (x : ℕ) (rest : List ℕ) → (x ≡ 45 → ⊥) → Unsigned (x ∷ rest)
unfolding read_of
no_minus x rest d = pick_no _ _ (ne_eqb x 45 d)

zero-first : (rest : List ℕ) → Unsigned (48 ∷ rest)
zero-first rest = no_minus 48 rest (λ e. let z : ⊥ = omega arith in z)

begins : (e f : ℕ) → Unsigned (magnitude_text e f)
unfolding magnitude_text text
begins e f =
    pick_all Unsigned (eqb e 2047) _ _ (λ t. no_minus 105 (110 ∷ 102 ∷ []) (λ e. let z : ⊥ = omega arith in z))
    (λ t. pick_all Unsigned (eqb e 0) _ _
    (λ u. pick_all Unsigned (eqb f 0) _ _ (λ w. zero-first (120 ∷ 48 ∷ text "p+0"))
    (λ w. zero-first (120 ∷ 48 ∷ (fraction_text f ++ text "p-1022"))))
    (λ u. zero-first (120 ∷ 49 ∷ (fraction_text f ++ exponent_text e))))

pattern-read : (bits : ℕ) → exponent_of bits < 2047
    → read_of (pattern_text bits) ≡ number (negative_of bits) (units_of (exponent_of bits) (fraction_of bits))
unfolding sign_text text read_of pick
pattern-read bits h = by (negative_of bits)
  where
    low : fraction_of bits < hidden
    low = mod-lt bits (omega arith)

    by : (b : Bool) → read_of (pick b (45 ∷ []) [] ++ magnitude_text (exponent_of bits) (fraction_of bits))
        ≡ number b (units_of (exponent_of bits) (fraction_of bits))
    by true = magnitude-read true (fraction_of bits) low (exponent_of bits) h
    by false =
        begins (exponent_of bits) (fraction_of bits)
        ∙ magnitude-read false (fraction_of bits) low (exponent_of bits) h

no_nan : (x : Float) → T (finite x) → (b : Bool) → ne x x ≡ b → ne x x ≡ false
no_nan x is true t = absurd (subst (λ y. T (finite y)) (differs_from_itself x (subst T (sym t) tt)) is)
no_nan x is false t = t

module _ (x : Float) (fit : T (fits binary64 x)) (is : T (finite x)) where
  pub text-read : let bits = to_bits binary64 x in
      read_of (number_text x) ≡ number (negative_of bits) (units_of (exponent_of bits) (fraction_of bits))
  text-read =
      ap read_of (pick_no _ _ (no_nan x is (ne x x) refl)) ∙ pattern-read (to_bits binary64 x) (exponent-low x fit is)

  pub reads-back-proof : ReadsBack x
  reads-back-proof =
      record {
        negative = negative_of (to_bits binary64 x);
        units = units_of (exponent_of (to_bits binary64 x)) (fraction_of (to_bits binary64 x));
        reads = text-read;
        is = value x fit is;
      }

same_number : {s t : Bool} {u v : ℕ} → number s u ≡ number t v → (s ≡ t) × (u ≡ v)
same_number e = (cc, cc)

pub one-text-proof : (x y : Float) → T (fits binary64 x) → T (fits binary64 y) → T (finite x) → T (finite y)
    → number_text x ≡ number_text y → to_bits binary64 x ≡ to_bits binary64 y
one-text-proof x y fx fy ix iy e =
    let p = to_bits binary64 x in
    let q = to_bits binary64 y in
    let n = same_number (sym (text-read x fx ix) ∙ ap read_of e ∙ text-read y fy iy) in
    let m = units-same (exponent_of p) (fraction_of p) (exponent_of q) (fraction_of q) (mod-lt p (omega arith))
    (mod-lt q (omega arith)) n.1 in
    fields-same p q (bits-low x fx ix) (bits-low y fy iy) n.0 m.0 m.1
