-- Bytes taken one after the other: the borders of the pieces don't show.
use Rattle.std.proofs.Common.{◌≡◌, ℕ, ◌+◌, ◌<◌, ◌≤◌, List, [], ◌∷◌, ◌++◌, length, get_or, drop, refl, ap}
use Rattle.std.proofs.Common.{drop_of_length-le}
use Rattle.sheet.proofs.DigitsLaws.{drop_more}
use Rattle.night_chain.specs.Chain.{step_of, fed_of}
use Rattle.night_chain.specs.declared.chain.Chain.{Chain}

pub fed_then : (n : Chain) (a b : List ℕ) → fed_of (fed_of n a) b ≡ fed_of n (a ++ b)
unfolding fed_of
fed_then n [] b = refl
fed_then n (x ∷ a) b = fed_then (step_of n x) a b

module _ (n : Chain) (piece : List ℕ) (i : ℕ) where
  -- a turn of the loop
  pub fed-more : i < length piece → fed_of n (drop i piece) ≡ fed_of (step_of n (get_or piece i 0)) (drop (i + 1) piece)
  unfolding fed_of
  fed-more h = ap (λ l. fed_of n l) (drop_more piece i h)

  pub fed-all : length piece ≤ i → n ≡ fed_of n (drop i piece)
  unfolding fed_of
  fed-all h = rw (drop_of_length-le piece h) refl
