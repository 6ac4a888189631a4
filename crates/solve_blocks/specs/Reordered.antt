-- Where this port's code goes another way than radau.rs, which no offered contract speaks of
-- (proofs/ReorderedLaws.antt: what it leaves is the same):
--     the three matrices are made in one pass over their n * n entries; under Identity as if no entry stood on the
--     diagonal, and the diagonal is then made anew under Identity a row of the mass matrix times a vector whose entries
--     are finite is a single term, the others being zeros
use Rattle.std.specs.Prelude.{ℕ, ◌+◌, ◌*◌, Bool, true, ◌&&◌, List, set, Float}
use Rattle.std.specs.Float.Ieee.{eq}
use Rattle.words.specs.Words.{◌⊕◌, ◌⊖◌, ◌⊗◌, ◌!◌}
use Rattle.words.specs.Constants.{«0·0», «1·0»}
use Rattle.words.specs.Loop.{loop}
use Rattle.solve_blocks.specs.Entries.{Three, three}
use Rattle.solve_blocks.specs.Newton.{sums, add_sums}
use Rattle.solve_blocks.specs.Estimate.{Sides, sides}

-- ---- the matrices

-- entry k of the three, where a, b and c are the mass matrix's entry times fac1, alphn and betan (radau.rs:384-387)
unfoldable pub made_at : Float → Float → Float → List Float → ℕ → Three → Three
made_at a b c jac k e = three (set e.one k (a ⊖ jac ! k)) (set e.two k (b ⊖ jac ! k)) (set e.three k c)

unfoldable pub full_at : List Float → List Float → Float → Float → Float → ℕ → Three → Three
full_at mass jac fac1 alphn betan k e = made_at (mass ! k ⊗ fac1) (mass ! k ⊗ alphn) (mass ! k ⊗ betan) jac k e

unfoldable pub diagonal_at : ℕ → Float → Float → Float → List Float → ℕ → Three → Three
diagonal_at n a b c jac r e = made_at a b c jac (r * n + r) e

unfoldable pub identity_built : ℕ → List Float → Float → Float → Float → Three → Three
identity_built n jac fac1 alphn betan e =
    loop (diagonal_at n («1·0» ⊗ fac1) («1·0» ⊗ alphn) («1·0» ⊗ betan) jac) 0 n
    (loop (made_at («0·0» ⊗ fac1) («0·0» ⊗ alphn) («0·0» ⊗ betan) jac) 0 (n * n) e)

-- ---- the sums

-- a double that is no zero when it is taken from itself is infinite or a NaN
unfoldable pub finite_at : List Float → ℕ → Bool → Bool
finite_at values j all = all && eq (values ! j ⊖ values ! j) «0·0»

unfoldable pub all_finite : ℕ → List Float → Bool
all_finite n values = loop (finite_at values) 0 n true

unfoldable pub identity_add_at : Three → Float → Float → Float → ℕ → Three → Three
identity_add_at f fac1 alphn betan i z =
    add_sums fac1 alphn betan
    (sums («0·0» ⊖ «1·0» ⊗ f.one ! i) («0·0» ⊖ «1·0» ⊗ f.two ! i) («0·0» ⊖ «1·0» ⊗ f.three ! i)) i z

unfoldable pub identity_side_at : List Float → List Float → ℕ → Sides → Sides
identity_side_at f0 f1 i s =
    let sum = «0·0» ⊕ «1·0» ⊗ f1 ! i in
    sides (set s.f2 i sum) (set s.cont i (sum ⊕ f0 ! i))
