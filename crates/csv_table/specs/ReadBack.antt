-- A hexadecimal number read, in whole numbers: what C's strtod takes a text to stand for. `0x1.8p+1` is the digits 18
-- in base 16, of which one stands behind the point, times 2 to the power 1. Each finite double is a whole number of
-- 2^-1074, of which it is told how many the text stands for. And a line of CSV, cut into its fields.
use Rattle.std.specs.Prelude.{ℕ, ◌+◌, ◌-◌, ◌*◌, ◌^◌, ◌≡◌, Bool, true, false, ◌&&◌, List, [], ◌∷◌, ◌++◌, eqb, leb}
use Rattle.std.specs.Prelude.{Option, None, Some, Float, length, get_or, take, drop}
use Rattle.std.specs.Float.Ieee.Exact.{HasValue}
use Rattle.words.specs.Loop.{pick}
use Rattle.bits.specs.Digit.{byte0}
use Rattle.sheet.specs.Digits.{spelled_of, found_of}
use Rattle.csv_table.specs.NumberText.{number_text}
use Rattle.csv_table.specs.Table.{comma_byte}

pub data Read : Type 0 where
  -- whether it is negative, and how many times 2^-1074 it is
  number : Bool → ℕ → Read
  unread : Read

-- the bytes of a text that are no digits
abbrev pub point_byte : ℕ
point_byte = 46

abbrev pub plus_byte : ℕ
plus_byte = 43

abbrev pub minus_byte : ℕ
minus_byte = 45

abbrev pub byte_p : ℕ
byte_p = 112

abbrev pub byte_x : ℕ
byte_x = 120

-- the smallest positive double is 2 to the power -1074
abbrev pub smallest : ℕ
smallest = 1074

-- m times 2 ^ up / 2 ^ down, where that is a whole number
unfoldable pub shifted_of : Bool → ℕ → ℕ → ℕ → Read
shifted_of s m up down = pick (leb down up) (number s (m * 2 ^ (up - down))) unread

-- digits that spell m, of which so many stand behind the point, times 2 to the power of what other digits spell,
-- which is above 0 or below
unfoldable pub scaled_of : Bool → Bool → ℕ → Option ℕ → Option ℕ → Read
scaled_of s below places (Some m) (Some d) =
    pick below (shifted_of s m smallest (d + 4 * places)) (shifted_of s m (smallest + d) (4 * places))
scaled_of s below places (Some m) None = unread
scaled_of s below places None d = unread

-- the digits before the `p`, cut at the point, and the exponent behind it, with its sign
unfoldable pub parts_of : Bool → List ℕ → List ℕ → Read
parts_of s ds exponent =
    let point = found_of point_byte ds in
    let fraction = drop (point + 1) ds in
    let sign = get_or exponent 0 0 in
    pick (eqb sign plus_byte)
    (scaled_of s false (length fraction) (spelled_of 16 0 (take point ds ++ fraction))
    (spelled_of 10 0 (drop 1 exponent)))
    (pick (eqb sign minus_byte)
    (scaled_of s true (length fraction) (spelled_of 16 0 (take point ds ++ fraction))
    (spelled_of 10 0 (drop 1 exponent)))
    unread)

-- behind the sign: `0x`, digits, `p`, the exponent
unfoldable pub unsigned_of : Bool → List ℕ → Read
unsigned_of s t =
    let behind = drop 2 t in
    let mark = found_of byte_p behind in
    pick (eqb (get_or t 0 0) byte0 && eqb (get_or t 1 0) byte_x)
    (parts_of s (take mark behind) (drop (mark + 1) behind))
    unread

unfoldable pub read_of : List ℕ → Read
read_of t = pick (eqb (get_or t 0 0) minus_byte) (unsigned_of true (drop 1 t)) (unsigned_of false t)

-- the text of x reads back to that very number
pub record ReadsBack (x : Float) : Type 0 where
  pub negative : Bool
  pub units : ℕ
  pub reads : read_of (number_text x) ≡ number negative units
  pub is : HasValue x negative units (2 ^ smallest)

-- ---- a line cut at its commas, as RFC 4180 cuts it where no field has quotes

unfoldable pub onto_first : ℕ → List (List ℕ) → List (List ℕ)
onto_first b [] = (b ∷ []) ∷ []
onto_first b (field ∷ fields) = (b ∷ field) ∷ fields

unfoldable pub fields_of : List ℕ → List (List ℕ)
fields_of [] = [] ∷ []
fields_of (b ∷ bytes) = pick (eqb b comma_byte) ([] ∷ fields_of bytes) (onto_first b (fields_of bytes))
