-- What the Rust's own lines make of the operands. Made by `tests/replays/samples.py write`;
-- nothing here is edited by hand.
use Prim.Native.Nat.{ℕ}
use mathlib.Core.List.{List, [], ◌∷◌}

-- radau.rs:194-198
abbrev pub turned_once : List ℕ
turned_once = 0x3ee4_f8b5_88e3_68ef ∷ 0x3e45_798e_e230_8c38 ∷ []

-- radau.rs:194-198
abbrev pub turned_twice : List ℕ
turned_twice = 0x3f08_55d5_c783_53ec ∷ 0x3e68_eb59_e2d4_4dbf ∷ []

-- radau.rs:194-198, radau.rs:205
abbrev pub newton_tolerance : List ℕ
newton_tolerance = 0x3f69_e7c6_e433_90b6 ∷ []
