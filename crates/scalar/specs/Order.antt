-- Size, order and sign of doubles, from 01, 'Arithmetic, operation by operation'. There is one NaN here, so
-- 'a NaN' needs no payload.
use Rattle.std.specs.Prelude.{false, pos, Float}
use Rattle.std.specs.Float.{nan, inf, fin}
use Rattle.std.specs.Float.Ieee.{lt, is_nan}
use Rattle.words.specs.Loop.{pick}

-- the sign cleared
unfoldable pub abs_of : Float → Float
abs_of nan = nan
abs_of (inf s) = inf false
abs_of (fin s m e) = fin false m e

-- 'a NaN argument yields the other'; of two that compare equal the first (only zeros of unlike signs compare equal and
-- differ: docs/DECISIONS.md)
unfoldable pub max_of : Float → Float → Float
max_of a b = pick (is_nan a) b (pick (lt a b) b a)

unfoldable pub min_of : Float → Float → Float
min_of a b = pick (is_nan a) b (pick (lt b a) b a)

-- 'the low end if below it, else the high end if above it'
unfoldable pub clamp_of : Float → Float → Float → Float
clamp_of x low high = pick (lt x low) low (pick (lt high x) high x)

-- 'signum of +0 is +1, of -0 is -1': 1 with the sign of x
unfoldable pub signum_of : Float → Float
signum_of nan = nan
signum_of (inf s) = fin s 1 (pos 0)
signum_of (fin s m e) = fin s 1 (pos 0)
