-- Numbers written one after the other, each by its kind and with its mark behind it; and that each is of its kind. The
-- sheet of a model is its numbers so written: `sheet-written` (proofs/Sheets.antt).
use Rattle.std.specs.Prelude.{ℕ, ◌+◌, ◌≤◌, List, [], ◌∷◌, ◌++◌}
use Rattle.sheet.specs.Digits.{digits, base_of, width_by}
use Rattle.sheet.specs.declared.kind.Kind.{Kind}

unfoldable pub spell_of : Kind → ℕ → List ℕ
spell_of k v = digits (base_of k.notation) (width_by k.notation v) v

pub record Of (k : Kind) (v : ℕ) : Type 0 where
  pub low : k.low ≤ v
  pub high : v ≤ k.high

-- the first is of the kind `k i`
unfoldable pub writes : (ℕ → Kind) → ℕ → List ℕ → List ℕ
writes k i [] = []
writes k i (v ∷ us) = spell_of (k i) v ++ ((k i).mark ∷ writes k (i + 1) us)

unfoldable pub Fit : (ℕ → Kind) → ℕ → List ℕ → Type 0
Fit k i [] = Unit
Fit k i (v ∷ us) = Of (k i) v × Fit k (i + 1) us
