-- What one read of standard input may come to. Which bytes come no contract can say; how many, this one does.
use Rattle.std.specs.Prelude.{ℕ, ◌≤◌, List, Option, None, Some, Result, Ok, Err}
use Rattle.replay.specs.Input.{IsPrefixLen}

-- bytes at the start of the piece, one at least and no more than it has room for; or the input's end; or an error
abbrev pub CameInto : {E : Type 0} → List ℕ → Result (Option ℕ) E → Type 0
CameInto piece (Ok (Some n)) = (1 ≤ n) × IsPrefixLen n piece
CameInto piece (Ok None) = Unit {0}
CameInto piece (Err e) = Unit {0}
