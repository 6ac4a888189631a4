-- A double in the C standard's hexadecimal form, as `0x1.8p+1` (02, [9]): 'leading digit 1 for normal numbers, trailing
-- zeros of the fraction dropped with a bare point dropped too, subnormals with leading 0 and exponent -1022, zero as
-- 0x0p+0 or -0x0p+0, otherwise inf, -inf, nan'.
use Rattle.std.specs.Prelude.{ℕ, zero, suc, ◌-◌, ◌/◌, ◌%◌, List, [], ◌∷◌, ◌++◌, eqb, leb, ltb, Float}
use Rattle.std.specs.Float.{binary64}
use Rattle.std.specs.Float.Ieee.{ne, to_bits}
use Rattle.words.specs.Loop.{pick}
use Rattle.sheet.specs.Digits.{digits, decimal_of}
use Rattle.forecast_text.specs.Printed.{text}

-- ---- the 64 bits: a sign, 11 bits of exponent, 52 of fraction (IEEE 754, 3.4)

-- 2^63 and 2^52: the sign's bit, and the lowest one of the exponent
abbrev pub sign_bit : ℕ
sign_bit = 0x8000_0000_0000_0000

abbrev pub exponent_bit : ℕ
exponent_bit = 0x0010_0000_0000_0000

-- the exponent that stands for 0, and the one of infinities and NaNs
abbrev pub bias : ℕ
bias = 1023

abbrev pub highest : ℕ
highest = 2047

abbrev pub magnitude : ℕ → ℕ
magnitude bits = bits % sign_bit

abbrev pub exponent_of : ℕ → ℕ
exponent_of bits = magnitude bits / exponent_bit

abbrev pub fraction_of : ℕ → ℕ
fraction_of bits = bits % exponent_bit

-- ---- the parts of the text

-- f in k hexadecimal digits, of which the zeros at the end are dropped
unfoldable pub trimmed : ℕ → ℕ → List ℕ
trimmed zero f = []
trimmed (suc k) f = pick (eqb (f % 16) 0) (trimmed k (f / 16)) (digits 16 (suc k) f)

-- a point in front of digits, and no bare one
unfoldable pub pointed : List ℕ → List ℕ
pointed [] = []
pointed (d ∷ ds) = text "." ++ (d ∷ ds)

-- the thirteen digits of a fraction
abbrev pub fraction_text : ℕ → List ℕ
fraction_text f = pointed (trimmed 13 f)

-- the exponent with its sign
unfoldable pub exponent_text : ℕ → List ℕ
exponent_text e = pick (ltb e bias) (text "p-" ++ decimal_of (bias - e)) (text "p+" ++ decimal_of (e - bias))

-- ---- the whole

-- a number without its sign, and no NaN: the exponent and the fraction of its bits
unfoldable pub magnitude_text : ℕ → ℕ → List ℕ
magnitude_text e f =
    pick (eqb e highest) (text "inf")
    (pick (eqb e 0) (pick (eqb f 0) (text "0x0p+0") (text "0x0" ++ fraction_text f ++ text "p-1022"))
    (text "0x1" ++ fraction_text f ++ exponent_text e))

unfoldable pub sign_text : ℕ → List ℕ
sign_text bits = pick (leb sign_bit bits) (text "-") []

abbrev pub pattern_text : ℕ → List ℕ
pattern_text bits = sign_text bits ++ magnitude_text (exponent_of bits) (fraction_of bits)

-- `nan` for every NaN
abbrev pub number_text : Float → List ℕ
number_text x = pick (ne x x) (text "nan") (pattern_text (to_bits binary64 x))
