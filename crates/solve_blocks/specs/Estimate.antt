-- The error of an attempt whose Newton iteration is over (radau.rs:622-669).
use Rattle.std.specs.Prelude.{ℕ, List, ◌++◌, set, take, drop, Float}
use Rattle.words.specs.Words.{◌⊕◌, ◌⊗◌, ◌⊘◌, ◌!◌}
use Rattle.words.specs.Constants.{«0·0», «1e-10»}
use Rattle.words.specs.Loop.{loop}
use Rattle.scalar.specs.Order.{max_of}
use Rattle.scalar.specs.SquareRootComputed.{sqrt_of}
use Rattle.scalar.specs.Coefficients.{DD1, DD2, DD3}
use Rattle.matrix.specs.Linear.{lin_solve_of}
use Rattle.state.specs.declared.settings.Mass.{Mass}
use Rattle.solve_blocks.specs.Entries.{mass_at, as_float, combined, Three}

-- [radau.rs:627-628]
unfoldable pub defect_at : Float → Float → Float → Three → ℕ → List Float → List Float
defect_at hee1 hee2 hee3 z i f1 = set f1 i (combined hee1 (z.one ! i) hee2 (z.two ! i) hee3 (z.three ! i))

-- [radau.rs:622-626]
unfoldable pub defect_of : ℕ → Float → Three → List Float → List Float
defect_of n h z f1 = loop (defect_at (DD1 ⊘ h) (DD2 ⊘ h) (DD3 ⊘ h) z) 0 n f1

-- [radau.rs:632-633]
unfoldable pub row_at : Mass → ℕ → List Float → List Float → ℕ → ℕ → Float → Float
row_at mode n mass f1 i j sum = sum ⊕ mass_at mode mass n i j ⊗ f1 ! j

-- [radau.rs:630-631]
unfoldable pub row_sum : Mass → ℕ → List Float → List Float → ℕ → Float
row_sum mode n mass f1 i = loop (row_at mode n mass f1 i) 0 n «0·0»

pub record Sides : Type 0 where
  pub f2 : List Float
  pub cont : List Float

abbrev pub sides : List Float → List Float → Sides
sides f2 cont = record { f2 = f2; cont = cont }

-- [radau.rs:634-636]
unfoldable pub side_at : Mass → ℕ → List Float → List Float → List Float → ℕ → Sides → Sides
side_at mode n mass f0 f1 i s =
    let sum = row_sum mode n mass f1 i in
    sides (set s.f2 i sum) (set s.cont i (sum ⊕ f0 ! i))

-- [radau.rs:629]
unfoldable pub sides_of : Mass → ℕ → List Float → List Float → List Float → Sides → Sides
sides_of mode n mass f0 f1 s = loop (side_at mode n mass f0 f1) 0 n s

-- the first n entries of cont are solved for, the others stay [radau.rs:637] [again radau.rs:660]
unfoldable pub solved_first : ℕ → List Float → List ℕ → List Float → List Float
solved_first n e1 ip1 cont = (lin_solve_of n e1 (take n cont) ip1).b ++ drop n cont

-- [radau.rs:640-645] [again radau.rs:662-667]
unfoldable pub error_at : List Float → List Float → ℕ → Float → Float
error_at scal cont i err =
    let r = cont ! i ⊘ scal ! i in
    err ⊕ r ⊗ r

-- a NaN becomes 1e-10 [radau.rs:646] [again radau.rs:668]
unfoldable pub error_of : ℕ → List Float → List Float → Float
error_of n scal cont = max_of (sqrt_of (loop (error_at scal cont) 0 n «0·0» ⊘ as_float n)) «1e-10»

-- [radau.rs:650-652]
unfoldable pub plus_at : List Float → ℕ → List Float → List Float
plus_at y i cont = set cont i (cont ! i ⊕ y ! i)

-- [radau.rs:656-659]
unfoldable pub sum_at : List Float → List Float → ℕ → List Float → List Float
sum_at f1 f2 i cont = set cont i (f1 ! i ⊕ f2 ! i)
