-- No number has more than 24 bytes, and no line more than 826: so a buffer of as many always suffices.
use Prim.Native.Nat.{ℕ, zero, suc, ◌+◌, ◌-◌, ◌*◌, ◌/◌, ◌%◌, ◌≤◌, ◌<◌}
use mathlib.Core.List.{List, [], ◌∷◌, ◌++◌}
use native.Mathlib.Omega.{arith}
use borrow.Author.Tests.{ltb-false}
use lib.Dec.{eqb, leb, ltb}
use lib.Ieee.{Float, binary64, ne, to_bits}
use lib.ListN.{length, length-append}
use Rattle.words.proofs.Branch.{pick_all}
use Rattle.sheet.specs.Digits.{digits, decimal_of, width_of}
use Rattle.sheet.proofs.Inverse.{length_digits}
use Rattle.forecast_text.specs.Printed.{text}
use Rattle.csv_table.specs.NumberText.{exponent_of, fraction_of, trimmed, pointed, fraction_text, exponent_text}
use Rattle.csv_table.specs.NumberText.{magnitude_text, sign_text, number_text}
use Rattle.csv_table.specs.Table.{names_text, header_text, amounts_text, record_text}

-- a text of at most so many bytes
abbrev Few : ℕ → List ℕ → Type 0
Few n t = length t ≤ n

-- ---- the parts of a number

trimmed-few : (k f : ℕ) → Few k (trimmed k f)
unfolding trimmed
trimmed-few zero f = omega arith
trimmed-few (suc k) f =
    pick_all (Few (suc k)) (eqb (f % 16) 0) (trimmed k (f / 16)) (digits 16 (suc k) f)
    (λ e. omega (arith, trimmed-few k (f / 16))) (λ e. omega (arith, length_digits 16 (suc k) f))

pointed-few : (ds : List ℕ) → Few (1 + length ds) (pointed ds)
unfolding pointed text
pointed-few [] = omega arith
pointed-few (d ∷ ds) = omega arith

fraction-few : (f : ℕ) → Few 14 (fraction_text f)
fraction-few f = omega (arith, pointed-few (trimmed 13 f), trimmed-few 13 f)

width_few : (v : ℕ) → v < 10000 → width_of v ≤ 4
unfolding width_of
width_few v h =
    pick_all (λ n. n ≤ 4) (ltb v 10) 1 _ (λ e. omega arith)
    (λ e. pick_all (λ n. n ≤ 4) (ltb v 100) 2 _ (λ e. omega arith)
    (λ e. pick_all (λ n. n ≤ 4) (ltb v 1000) 3 _ (λ e. omega arith)
    (λ e. pick_all (λ n. n ≤ 4) (ltb v 10000) 4 _ (λ e. omega arith)
    (λ e. absurd (let z : ⊥ = omega (arith, ltb-false v 10000 e) in z)))))

decimal-few : (v : ℕ) → v < 10000 → Few 4 (decimal_of v)
decimal-few v h = omega (arith, length_digits 10 (width_of v) v, width_few v h)

exponent-few : (e : ℕ) → e < 2048 → Few 6 (exponent_text e)
unfolding exponent_text text
exponent-few e h =
    pick_all (Few 6) (ltb e 1023) _ _
    (λ t. omega (arith, decimal-few (1023 - e) (let z : 1023 - e < 10000 = omega arith in z)))
    (λ t. omega (arith, decimal-few (e - 1023) (let z : e - 1023 < 10000 = omega arith in z)))

-- `0x`, a digit, and two texts
begun-few : (d : ℕ) (xs ys : List ℕ) → Few 14 xs → Few 6 ys → Few 23 (48 ∷ 120 ∷ d ∷ (xs ++ ys))
begun-few d xs ys p q = omega (arith, length-append xs ys)

magnitude-few : (e f : ℕ) → e < 2048 → Few 23 (magnitude_text e f)
unfolding magnitude_text text
magnitude-few e f h =
    pick_all (Few 23) (eqb e 2047) _ _ (λ t. omega arith)
    (λ t. pick_all (Few 23) (eqb e 0) _ _
    (λ u. pick_all (Few 23) (eqb f 0) _ _ (λ w. omega arith)
    (λ w. begun-few 48 (fraction_text f) (text "p-1022") (fraction-few f) (omega arith)))
    (λ u. begun-few 49 (fraction_text f) (exponent_text e) (fraction-few f) (exponent-few e h)))

sign-few : (bits : ℕ) → Few 1 (sign_text bits)
unfolding sign_text text
sign-few bits =
    pick_all (Few 1) (leb 0x8000_0000_0000_0000 bits) _ _ (λ t. omega arith) (λ t. omega arith)

pub number-few-proof : (x : Float) → length (number_text x) ≤ 24
unfolding text
number-few-proof x =
    let bits = to_bits binary64 x in
    pick_all (Few 24) (ne x x) _ _ (λ t. omega arith)
    (λ t. let low : exponent_of bits < 2048 = omega arith in
    omega (
      arith,
      length-append (sign_text bits) (magnitude_text (exponent_of bits) (fraction_of bits)),
      sign-few bits,
      magnitude-few (exponent_of bits) (fraction_of bits) low,
    ))

-- ---- lines

amounts-few : (ys : List Float) → length (amounts_text ys) ≤ length ys * 25
unfolding amounts_text text
amounts-few [] = omega arith
amounts-few (y ∷ ys) =
    omega (arith, length-append (number_text y) (amounts_text ys), number-few-proof y, amounts-few ys)

names-few : (n : ℕ) → n ≤ 32 → length (names_text n) ≤ n * 6
unfolding names_text text
names-few zero h = omega arith
names-few (suc k) h =
    omega (
      arith,
      length-append (names_text k) (44 ∷ 121 ∷ decimal_of (suc k)),
      decimal-few (suc k) (let z : suc k < 10000 = omega arith in z),
      names-few k (let z : k ≤ 32 = omega arith in z),
    )

pub record-few-proof : (x : Float) (ys : List Float) → length ys ≤ 32 → length (record_text x ys) ≤ 826
record-few-proof x ys h =
    simp length-append (omega (arith, number-few-proof x, amounts-few ys))

pub header-few-proof : (n : ℕ) → n ≤ 32 → length (header_text n) ≤ 826
unfolding text
header-few-proof n h = simp length-append (omega (arith, names-few n h))
