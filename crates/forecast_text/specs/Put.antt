-- Bytes put into memory from a place on, and the place behind them.
use Rattle.std.specs.Prelude.{ℕ, ◌+◌, ◌-◌, ◌≡◌, List, ◌++◌, length, take}
use Rattle.std.proofs.lemmas.List.Edits.{sets}

pub record Put (at : ℕ) (bytes before after : List ℕ) (next : ℕ) : Type 0 where
  pub ends : next ≡ at + length bytes
  pub is : after ≡ sets before at bytes

-- a text with bytes put behind it, of which what finds no room is left out
unfoldable pub put : ℕ → List ℕ → List ℕ → List ℕ
put room before bytes = before ++ take (room - length before) bytes
