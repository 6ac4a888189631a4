-- Entries that depend on a mode: of the mass matrix, of the Jacobian, of the tolerances; and the sums of three products
-- that `solve` is full of.
use Rattle.std.specs.Prelude.{ℕ, List, eqb, Float, pos}
use Rattle.std.specs.Float.{binary64}
use Rattle.std.specs.Float.Ieee.{of_int}
use Rattle.words.specs.Words.{◌⊕◌, ◌⊗◌, ◌!◌}
use Rattle.words.specs.Constants.{«0·0», «1·0»}
use Rattle.words.specs.Loop.{pick}
use Rattle.words.specs.Grid.{at}
use Rattle.state.specs.declared.settings.Mass.{Mass}
use Rattle.state.specs.declared.settings.Mass.TheVariants.{Identity, Full}
use Rattle.state.specs.declared.run.Tolerances.{Tolerances}
use Rattle.state.specs.declared.run.Tolerances.TheVariants.{Scalars, Lists}

-- `mass[(r, c)]` (matrix/index.rs:17-25)
unfoldable pub mass_at : Mass → List Float → ℕ → ℕ → ℕ → Float
mass_at Identity mass n r c = pick (eqb r c) «1·0» «0·0»
mass_at Full mass n r c = at mass n r c

-- `jac[(r, c)]` (matrix/index.rs:25)
unfoldable pub jac_at : List Float → ℕ → ℕ → ℕ → Float
jac_at jac n r c = at jac n r c

-- `rtol[i]` and `atol[i]`: a scalar stands for every entry (methods/mod.rs:248-258)
unfoldable pub rtol_at : Tolerances → List Float → ℕ → Float
rtol_at (Scalars rtol atol) rtols i = rtol
rtol_at Lists rtols i = rtols ! i

unfoldable pub atol_at : Tolerances → List Float → ℕ → Float
atol_at (Scalars rtol atol) atols i = atol
atol_at Lists atols i = atols ! i

-- `n as Float`
abbrev pub as_float : ℕ → Float
as_float n = of_int binary64 (pos n)

-- a * x + b * y + c * z
unfoldable pub combined : Float → Float → Float → Float → Float → Float → Float
combined a x b y c z = a ⊗ x ⊕ b ⊗ y ⊕ c ⊗ z

-- three lists that are worked on side by side: z1, z2, z3 or f1, f2, f3
pub record Three : Type 0 where
  pub one : List Float
  pub two : List Float
  pub three : List Float

abbrev pub three : List Float → List Float → List Float → Three
three a b c = record { one = a; two = b; three = c }
