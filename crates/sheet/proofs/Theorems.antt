-- What the reader answers, for all bytes: what a user cites, each theorem in words, its statement, and where it is
-- proved. The grammar is `written` with `Valid` (specs/Sheet.antt), the first wrong line `Malformed`
-- (specs/Malformed.antt).
use Prim.Native.Nat.{ℕ, ◌≤◌, ◌<◌}
use mathlib.Core.Path.{◌≡◌}
use mathlib.Core.Logic.{◌↔◌}
use mathlib.Core.List.{List, ◌++◌}
use lib.ListN.{length}
use Rattle.sheet.specs.Sheet.{Model, Valid, written}
use Rattle.sheet.specs.Lines.{lines_in}
use Rattle.sheet.specs.Malformed.{Begun, Malformed}
use Rattle.sheet.specs.Reader.{accepted, malformed, too_long, read_of}
use Rattle.sheet.proofs.Accepted.{written-short-proof, accepted-exactly-proof}
use Rattle.sheet.proofs.FirstWrong.{malformed-first-proof}
use Rattle.sheet.proofs.BegunSheet.{malformed-reached-proof}
use Rattle.sheet.proofs.Refused.{too-long-exactly-proof, one-line-proof, malformed-exactly-proof}

-- Bytes are accepted with the model m exactly when they are the sheet of m and m is valid.
pub accepted-exactly : (s : List ℕ) (m : Model) → (read_of s ≡ accepted m) ↔ ((s ≡ written m) × Valid m)
accepted-exactly = accepted-exactly-proof

-- Every valid sheet is short enough to be read.
pub written-short : (m : Model) → Valid m → length (written m) ≤ 4096
written-short = written-short-proof

-- Bytes are too long exactly when there are more than 4,096 of them.
pub too-long-exactly : (s : List ℕ) → (read_of s ≡ too_long) ↔ (4096 < length s)
too-long-exactly = too-long-exactly-proof

-- Bytes are refused at line k exactly when k is their first wrong line.
pub malformed-exactly : (s : List ℕ) (k : ℕ) → (read_of s ≡ malformed k) ↔ Malformed s k
malformed-exactly = malformed-exactly-proof

-- There is one first wrong line only.
pub one_line : (s : List ℕ) (k k' : ℕ) → Malformed s k → Malformed s k' → k ≡ k'
one_line = one-line-proof

-- No valid sheet begins with the lines of the bytes up to the one that is told.
pub malformed-first : (s : List ℕ) (k : ℕ) → read_of s ≡ malformed k → (p rest : List ℕ) → s ≡ p ++ rest
    → lines_in p ≡ k → (m : Model) → Valid m → (r : List ℕ) → written m ≡ p ++ r → ⊥
malformed-first = malformed-first-proof

-- With any fewer of their lines some valid sheet begins.
pub malformed-reached : (s : List ℕ) (k : ℕ) → read_of s ≡ malformed k → (j : ℕ) → j < k → Begun s j
malformed-reached = malformed-reached-proof
