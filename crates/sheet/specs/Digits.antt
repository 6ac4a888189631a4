-- Numbers written with digits, and read. A text is a list of bytes, each below 256.
--     hex_of v        the bits of a float: sixteen hexadecimal digits in lower case
--     decimal_of v    any other number, below 10^10: as many decimal digits as it has
use Rattle.std.specs.Prelude.{ℕ, zero, suc, ◌+◌, ◌*◌, ◌/◌, ◌%◌, Option, None, Some, List, [], ◌∷◌, eqb, ltb}
use Rattle.words.specs.Loop.{pick}
use Rattle.bits.specs.Digit.{byte0, ten_below_a, digit_of}
use Rattle.sheet.specs.declared.spelling.Notation.{Notation}
use Rattle.sheet.specs.declared.spelling.Notation.TheVariants.{Decimal, Hexadecimal}

-- ---- written

-- the byte of a digit
unfoldable pub byte_of : ℕ → ℕ
byte_of d = pick (ltb d 10) (byte0 + d) (ten_below_a + d)

unfoldable pub power : ℕ → ℕ → ℕ
power b zero = 1
power b (suc k) = power b k * b

-- v in k digits of base b, the highest first
unfoldable pub digits : ℕ → ℕ → ℕ → List ℕ
digits b zero v = []
digits b (suc k) v = byte_of (v / power b k) ∷ digits b k (v % power b k)

-- how many decimal digits v has, where it has no more than ten
unfoldable pub width_of : ℕ → ℕ
width_of v =
    pick (ltb v 10) 1
    (pick (ltb v 100) 2
    (pick (ltb v 1000) 3
    (pick (ltb v 10000) 4
    (pick (ltb v 100000) 5
    (pick (ltb v 1000000) 6 (pick (ltb v 10000000) 7 (pick (ltb v 100000000) 8 (pick (ltb v 1000000000) 9 10))))))))

abbrev pub hex_of : ℕ → List ℕ
hex_of v = digits 16 16 v

abbrev pub decimal_of : ℕ → List ℕ
decimal_of v = digits 10 (width_of v) v

-- ---- read

-- what follows a digit; in base b a digit is below b
unfoldable pub after_digit : ℕ → Option ℕ → (ℕ → Option ℕ) → Option ℕ
after_digit b None then = None
after_digit b (Some d) then = pick (ltb d b) (then d) None

-- the number that a text spells in base b, after digits that spell v
unfoldable pub spelled_of : ℕ → ℕ → List ℕ → Option ℕ
spelled_of b v [] = Some v
spelled_of b v (x ∷ text) = after_digit b (digit_of x) (λ d. spelled_of b (v * b + d) text)

unfoldable pub base_of : Notation → ℕ
base_of Decimal = 10
base_of Hexadecimal = 16

unfoldable pub width_by : Notation → ℕ → ℕ
width_by Decimal v = width_of v
width_by Hexadecimal v = 16

-- where a byte first stands in a text; the text's length, where it doesn't
unfoldable pub found_of : ℕ → List ℕ → ℕ
found_of b [] = 0
found_of b (x ∷ text) = pick (eqb x b) 0 (found_of b text + 1)
