-- The digits that bits are written with, in a word of a case as in a sheet.
use Rattle.std.specs.Prelude.{ℕ, ◌-◌, Option, None, Some, leb, ltb}
use Rattle.words.specs.Loop.{pick}

-- the bytes of 0 and 9, of a and f, and ten below that of a
abbrev pub byte0 : ℕ
byte0 = 48

abbrev pub byte9 : ℕ
byte9 = 57

abbrev pub byte_a : ℕ
byte_a = 97

abbrev pub byte_f : ℕ
byte_f = 102

abbrev pub ten_below_a : ℕ
ten_below_a = 87

-- the value of a hexadecimal digit in lower case; no other byte has one
unfoldable pub digit_of : ℕ → Option ℕ
digit_of byte =
    pick (ltb byte byte0) None
    (pick (leb byte byte9) (Some (byte - byte0))
    (pick (ltb byte byte_a) None (pick (leb byte byte_f) (Some (byte - ten_below_a)) None)))
