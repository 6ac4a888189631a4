-- The doubles that are not negative, by their bit patterns (IEEE 754, binary64): 0 is that of +0, and each further one,
-- up to infinity's, that of the next double. As a whole number a double is so many of the smallest (2 ^ -1074).
use Rattle.std.specs.Prelude.{ℕ, ◌+◌, ◌-◌, ◌*◌, ◌/◌, ◌%◌, ◌^◌, ltb}
use Rattle.words.specs.Loop.{pick}

abbrev pub infinity_pattern : ℕ
infinity_pattern = 0x7ff0_0000_0000_0000

-- How many of the smallest double the pattern b stands for: 52 digits below a field; a field of 0 has no leading digit,
-- and the next field the same place. (Infinity's pattern has 2 ^ 2098, that is the 2 ^ 1024 at which the doubles end.)
unfoldable pub units : ℕ → ℕ
units b = pick (ltb b (2 ^ 52)) b ((2 ^ 52 + b % 2 ^ 52) * 2 ^ (b / 2 ^ 52 - 1))

-- how many of the smallest double make 1 (shut, since the numeral has 324 digits)
unfoldable pub units_in_one : ℕ
units_in_one = 2 ^ 1074
