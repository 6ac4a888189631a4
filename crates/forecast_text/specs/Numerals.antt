-- The digits of a number, whatever the base, the width and the number.
use Rattle.std.specs.Prelude.{ℕ, ◌%◌, List, min, max}
use Rattle.sheet.specs.Digits.{power, digits}

-- the last n digits of v, which are all of it where it is below b^n
abbrev pub lowest : ℕ → ℕ → ℕ → List ℕ
lowest b n v = digits b n (v % power b n)

-- as many of the last digits as are asked for, twenty at most; a base below 2 is taken as 2, and one above 16 as 16
unfoldable pub last_digits : ℕ → ℕ → ℕ → List ℕ
last_digits base width v = lowest (max 2 (min base 16)) (min width 20) v
