-- What `elchepur_coefficient` answers and writes. Document 01 refuses nothing here and has no number for a place past
-- the table; 30 is one that it doesn't use.
use Rattle.std.specs.Prelude.{ℕ, Option, Some, None, Float}

abbrev pub entry_number : Option Float → ℕ
entry_number (Some v) = 0
entry_number None = 30

-- the value after the call, from the value before it
abbrev pub entry_value : Option Float → Float → Float
entry_value (Some v) kept = v
entry_value None kept = kept
