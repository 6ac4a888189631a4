-- What reading standard input to its end may come to. Which bytes come no contract can say; how many are kept, this one
-- does.
use Rattle.std.specs.Prelude.{ℕ, ◌≤◌, Result, Ok, Err}

-- one byte more than a sheet may have
abbrev pub room : ℕ
room = 4097

-- bytes at the start of what was lent, no more than there is room for; or an error
abbrev pub KeptIn : {E : Type 0} → Result ℕ E → Type 0
KeptIn (Ok n) = n ≤ room
KeptIn (Err e) = Unit {0}
