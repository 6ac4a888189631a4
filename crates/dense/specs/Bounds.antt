-- `bounds`, which dense.rs has twice: the left and the right end of a step.
use Rattle.std.specs.Prelude.{Float}
use Rattle.std.specs.Float.Ieee.{le}
use Rattle.words.specs.Words.{◌⊕◌}
use Rattle.words.specs.Constants.{«0·0»}
use Rattle.words.specs.Loop.{pick}
use Rattle.dense.specs.declared.answers.Bounds.{Bounds}

abbrev pub ends : Float → Float → Bounds
ends left right = record { left = left; right = right }

-- the test is `h >= 0.0`, which -0 passes and a NaN doesn't [dense.rs:71-79] [again dense.rs:132-140]
unfoldable pub bounds_of : Float → Float → Bounds
bounds_of xold h = pick (le «0·0» h) (ends xold (xold ⊕ h)) (ends (xold ⊕ h) xold)
