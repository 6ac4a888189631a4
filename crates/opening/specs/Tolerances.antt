-- Tolerances at opening: each pair is converted, and the Newton tolerance comes from the first rtol after all
-- turns (radau.rs:189-207).
use Rattle.std.specs.Prelude.{ℕ, List, set, Float, None, Some, Option}
use Rattle.words.specs.Words.{◌⊗◌, ◌⊘◌, ◌!◌}
use Rattle.words.specs.Constants.{«10·0», «0·1», «0·03»}
use Rattle.words.specs.Loop.{loop}
use Rattle.scalar.specs.Order.{max_of, min_of}
use Rattle.scalar.specs.Powers.{two_thirds_of}
use Rattle.scalar.specs.SquareRootComputed.{sqrt_of}
use Rattle.state.specs.declared.settings.Rule.{Rule}
use Rattle.state.specs.declared.settings.Rule.TheVariants as rule
use Rattle.state.specs.declared.run.Tolerances.{Tolerances}
use Rattle.state.specs.declared.run.Tolerances.TheVariants.{Scalars, Lists}
use Rattle.opening.specs.declared.tolerances.Pair.{Pair}
use Rattle.opening.specs.declared.tolerances.Conversion.{Conversion}
use Rattle.state.specs.Memory.{zeros}

abbrev pub pair : Float → Float → Pair
pair rtol atol = record { rtol = rtol; atol = atol }

-- one turn on one pair: the quotient is kept, and rtol becomes 0.1 * rtol^(2/3) [radau.rs:195-198]
unfoldable pub turn_at : ℕ → Pair → Pair
turn_at i p =
    let rtol = «0·1» ⊗ two_thirds_of p.rtol in
    pair rtol (rtol ⊗ (p.atol ⊘ p.rtol))

pub record Columns : Type 0 where
  pub rtols : List Float
  pub atols : List Float

abbrev pub columns : List Float → List Float → Columns
columns rtols atols = record { rtols = rtols; atols = atols }

-- the same turn on entry i of both lists
unfoldable pub list_turn_at : ℕ → Columns → Columns
list_turn_at i c =
    let p = turn_at i (pair (c.rtols ! i) (c.atols ! i)) in
    columns (set c.rtols i p.rtol) (set c.atols i p.atol)

-- The Rust's index of a scalar tolerance is always the one number, so its n turns act on that number n times;
-- the book converts it once.
unfoldable pub scalar_turns : Rule → ℕ → ℕ
scalar_turns rule.Rust n = n
scalar_turns rule.Book n = 1

-- the tolerances of the run, rtol[0] after all turns, and what the two parts hold: unused parts are +0
pub record Converted : Type 0 where
  pub conversion : Conversion
  pub rtols : List Float
  pub atols : List Float

abbrev pub converted : Conversion → List Float → List Float → Converted
converted conversion rtols atols = record { conversion = conversion; rtols = rtols; atols = atols }

abbrev pub conversion : Tolerances → Float → Conversion
conversion tolerances tolst = record { tolerances = tolerances; tolst = tolst }

-- [radau.rs:189-194]
unfoldable pub converted_of : Rule → ℕ → Tolerances → List Float → List Float → Converted
converted_of r n (Scalars rtol atol) rtols atols =
    let p = loop turn_at 0 (scalar_turns r n) (pair rtol atol) in
    converted (conversion (Scalars p.rtol p.atol) p.rtol) (zeros n) (zeros n)
converted_of r n Lists rtols atols =
    let c = loop list_turn_at 0 n (columns rtols atols) in
    converted (conversion Lists (c.rtols ! 0)) c.rtols c.atols

-- [radau.rs:200-207]
unfoldable pub newton_tol_of : Option Float → Float → Float → Float
newton_tol_of (Some v) uround tolst = v
newton_tol_of None uround tolst =
    max_of («10·0» ⊗ uround ⊘ tolst) (min_of «0·03» (sqrt_of tolst))
