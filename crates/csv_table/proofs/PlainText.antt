-- No number's text has a comma, a quote, CR or LF: its bytes are `+`, `-`, `.`, digits and small letters.
use Prim.Native.Nat.{ℕ, zero, suc, ◌-◌, ◌/◌, ◌%◌, ◌≤◌}
use mathlib.Core.Path.{◌≡◌}
use mathlib.Core.List.{List, [], ◌∷◌, ◌++◌}
use native.Mathlib.Omega.{arith}
use lib.Dec.{eqb, leb, ltb}
use lib.Ieee.{Float, binary64, ne, to_bits}
use Rattle.words.proofs.Branch.{pick_all}
use Rattle.words.proofs.OneOutcome.{◌▹◌}
use Rattle.sheet.specs.Digits.{digits, decimal_of, width_of}
use Rattle.sheet.specs.Sheet.{Every}
use Rattle.sheet.proofs.Inverse.{digits-high}
use Rattle.forecast_text.specs.Printed.{text}
use Rattle.csv_table.specs.NumberText.{trimmed, pointed, fraction_text, exponent_text, magnitude_text, sign_text}
use Rattle.csv_table.specs.NumberText.{exponent_of, fraction_of, number_text}
use Rattle.csv_table.specs.Table.{Plain}

every-plain : (xs ys : List ℕ) → Every Plain xs → Every Plain ys → Every Plain (xs ++ ys)
every-plain [] ys p q = q
every-plain (x ∷ xs) ys p q = (p.0, every-plain xs ys p.1 q)

-- a byte of a text, by its number
plain_by : (b : ℕ) → (b ≡ 44 → ⊥) → 35 ≤ b → Plain b
plain_by b h k = record {
  comma = h;
  quote = λ e. let z : ⊥ = omega arith in z;
  cr = λ e. let z : ⊥ = omega arith in z;
  lf = λ e. let z : ⊥ = omega arith in z;
}

high : (b : ℕ) → 45 ≤ b → Plain b
high b h = plain_by b (λ e. let z : ⊥ = omega arith in z) (omega arith)

plus : Plain 43
plus = plain_by 43 (λ e. let z : ⊥ = omega arith in z) (omega arith)

high-plain : (xs : List ℕ) → Every (λ x. 48 ≤ x) xs → Every Plain xs
high-plain [] p = tt
high-plain (x ∷ xs) p = (high x (omega (arith, p.0)), high-plain xs p.1)

digits-plain : (b k v : ℕ) → Every Plain (digits b k v)
digits-plain b k v = high-plain (digits b k v) (digits-high b k v)

trimmed-plain : (k f : ℕ) → Every Plain (trimmed k f)
unfolding trimmed
trimmed-plain zero f = tt
trimmed-plain (suc k) f =
    pick_all (Every Plain) (eqb (f % 16) 0) (trimmed k (f / 16)) (digits 16 (suc k) f)
    (λ e. trimmed-plain k (f / 16)) (λ e. digits-plain 16 (suc k) f)

pointed-plain : (ds : List ℕ) → Every Plain ds → Every Plain (pointed ds)
unfolding pointed text
pointed-plain [] p = tt
pointed-plain (d ∷ ds) p = (high 46 (omega arith), p)

fraction-plain : (f : ℕ) → Every Plain (fraction_text f)
fraction-plain f = pointed-plain (trimmed 13 f) (trimmed-plain 13 f)

-- `p` and a sign
marked-plain : (sign : ℕ) → Plain sign → (v : ℕ) → Every Plain (112 ∷ sign ∷ decimal_of v)
marked-plain sign p v = high 112 (omega arith) ▹ p ▹ digits-plain 10 (width_of v) v

exponent-plain : (e : ℕ) → Every Plain (exponent_text e)
unfolding exponent_text text
exponent-plain e =
    pick_all (Every Plain) (ltb e 1023) _ _ (λ t. marked-plain 45 (high 45 (omega arith)) (1023 - e))
    (λ t. marked-plain 43 plus (e - 1023))

-- `0x` and a digit
begun-plain : (d : ℕ) → 45 ≤ d → (xs : List ℕ) → Every Plain xs → Every Plain (48 ∷ 120 ∷ d ∷ xs)
begun-plain d h xs p = high 48 (omega arith) ▹ high 120 (omega arith) ▹ high d h ▹ p

-- the exponent of a subnormal number, and of zero
lowest-plain : Every Plain (text "p-1022")
unfolding text
lowest-plain =
    high 112 (omega arith) ▹ high 45 (omega arith) ▹ high 49 (omega arith) ▹ high 48 (omega arith)
    ▹ high 50 (omega arith) ▹ high 50 (omega arith) ▹ tt {0}

none-plain : Every Plain (text "p+0")
unfolding text
none-plain = high 112 (omega arith) ▹ plus ▹ high 48 (omega arith) ▹ tt {0}

magnitude-plain : (e f : ℕ) → Every Plain (magnitude_text e f)
unfolding magnitude_text text
magnitude-plain e f =
    pick_all (Every Plain) (eqb e 2047) _ _
    (λ t. high 105 (omega arith) ▹ high 110 (omega arith) ▹ high 102 (omega arith) ▹ tt {0})
    (λ t. pick_all (Every Plain) (eqb e 0) _ _
    (λ u. pick_all (Every Plain) (eqb f 0) _ _ (λ w. begun-plain 48 (omega arith) (text "p+0") none-plain)
    (λ w. begun-plain 48 (omega arith) (fraction_text f ++ text "p-1022")
    (every-plain (fraction_text f) (text "p-1022") (fraction-plain f) lowest-plain)))
    (λ u. begun-plain 49 (omega arith) (fraction_text f ++ exponent_text e)
    (every-plain (fraction_text f) (exponent_text e) (fraction-plain f) (exponent-plain e))))

sign-plain : (bits : ℕ) → Every Plain (sign_text bits)
unfolding sign_text text
sign-plain bits =
    pick_all (Every Plain) (leb 0x8000_0000_0000_0000 bits) _ _ (λ t. high 45 (omega arith) ▹ tt {0}) (λ t. tt)

pub text-plain-proof : (x : Float) → Every Plain (number_text x)
unfolding text
text-plain-proof x =
    pick_all (Every Plain) (ne x x) _ _
    (λ t. high 110 (omega arith) ▹ high 97 (omega arith) ▹ high 110 (omega arith) ▹ tt {0})
    (λ t. let bits = to_bits binary64 x in
    every-plain (sign_text bits) (magnitude_text (exponent_of bits) (fraction_of bits)) (sign-plain bits)
    (magnitude-plain (exponent_of bits) (fraction_of bits)))
