-- Repeated products, each rounded: 'whole powers [are] repeated products from 1', and the 'm-fold product, from
-- the left' of a root (01).
use Rattle.std.specs.Prelude.{ℕ, Float}
use Rattle.words.specs.Words.{◌⊗◌}
use Rattle.words.specs.Constants.{«1·0»}
use Rattle.words.specs.Loop.{loop}

-- one factor x more
unfoldable pub times_at : Float → ℕ → Float → Float
times_at x i p = p ⊗ x

-- x to the whole power n: 1 ⊗ x ⊗ .. ⊗ x
unfoldable pub power_of : ℕ → Float → Float
power_of n x = loop (times_at x) 0 n «1·0»

-- x ⊗ x ⊗ .. ⊗ x, of m factors, m from 1 on
unfoldable pub product : ℕ → Float → Float
product m x = loop (times_at x) 1 m x
