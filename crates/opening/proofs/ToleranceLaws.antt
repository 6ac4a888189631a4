-- The two ways through the conversion of tolerances, over variables.
use Prim.Native.Nat.{ℕ}
use mathlib.Core.Path.{◌≡◌, ap}
use mathlib.Core.List.{List}
use lib.ListN.{length}
use lib.Ieee.{Float}
use Rattle.words.specs.Words.{◌!◌}
use Rattle.words.specs.Loop.{loop}
use Rattle.state.specs.declared.settings.Rule.{Rule}
use Rattle.state.specs.declared.run.Tolerances.{Tolerances}
use Rattle.state.specs.declared.run.Tolerances.TheVariants.{Scalars, Lists}
use Rattle.opening.specs.declared.tolerances.Pair.{Pair}
use Rattle.state.specs.Memory.{zeros}
use Rattle.opening.specs.Tolerances.{pair, turn_at, Columns, columns, list_turn_at}
use Rattle.opening.specs.Tolerances.{scalar_turns, conversion, converted, converted_of}

module _ (r : Rule) (n : ℕ) (t : Tolerances) (rtols atols : List Float) where
  pub by-scalars : (rtol atol : Float) (k : ℕ) (p : Pair) (u v : List Float) → t ≡ Scalars rtol atol
      → k ≡ scalar_turns r n → p ≡ loop turn_at 0 k (pair rtol atol)
      → u ≡ zeros (length rtols) → v ≡ zeros (length atols) → length rtols ≡ n → length atols ≡ n
      → converted (conversion (Scalars p.rtol p.atol) p.rtol) u v ≡ converted_of r n t rtols atols
  unfolding converted_of
  by-scalars rtol atol k p u v e f g a b l m = rw (e, a, b, l, m, g, f)

  pub by-lists : (u v : List Float) → t ≡ Lists → columns u v ≡ loop list_turn_at 0 n (columns rtols atols)
      → converted (conversion Lists (u ! 0)) u v ≡ converted_of r n t rtols atols
  unfolding converted_of
  by-lists u v e f =
      rw e (ap (λ (c : Columns). converted (conversion Lists (c.rtols ! 0)) c.rtols c.atols) f)
